use Rattle.quadratic.proofs.Coordinates.{doubled_complete, doubled_faithful, even_coordinate, odd_coordinate, never_lone}
use Rattle.quadratic.proofs.quadratic.file.QuadraticFileField.coordinate.Goals as goal

pub returns-then-i-eq0 : goal.returns-then-i-eq0
returns-then-i-eq0 g c =
    let below = c.coordinate.ensures in
    let m = g.F.FileField in
    let r = c.coordinate.result in
    record {
      value = even_coordinate m.coordinates m.width below.complete m.prime c.args.self c.args.i r c.if-i-eq0.true below.value;
      number = never_lone m.width r _;
      complete = doubled_complete m.coordinates m.width below.complete;
      faithful = doubled_faithful m.coordinates m.width below.complete below.faithful;
    }

pub returns-else-i-eq0 : goal.returns-else-i-eq0
returns-else-i-eq0 g c =
    let below = c.coordinate-else-i-eq0.ensures in
    let m = g.F.FileField in
    let r = c.coordinate-else-i-eq0.result in
    record {
      value = odd_coordinate m.coordinates m.width below.complete m.prime c.args.self c.args.i r c.if-i-eq0.false below.value;
      number = never_lone m.width r _;
      complete = doubled_complete m.coordinates m.width below.complete;
      faithful = doubled_faithful m.coordinates m.width below.complete below.faithful;
    }
