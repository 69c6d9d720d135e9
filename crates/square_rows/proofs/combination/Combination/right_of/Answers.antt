use Rattle.sheet.specs.Outcomes.{shape_of}
use Rattle.square_rows.proofs.Records.{right_plus, right_minus, right_square, right_product, right_empty}
use Rattle.square_rows.proofs.combination.Combination.right_of.Goals as goal

pub returns-in-PublicPlus : goal.returns-in-PublicPlus
returns-in-PublicPlus g c = λ t w.
    rw (c.of_terms.ensures, c.unit.ensures, c.none.ensures, c.wires-wires.ensures, c.in-PublicPlus.is)
    (right_plus g.met.F.Field.laws (shape_of c.args.head.now) t w c.in-PublicPlus.j)

pub returns-in-PublicMinus : goal.returns-in-PublicMinus
returns-in-PublicMinus g c = λ t w.
    rw (c.of_terms-in-PublicMinus.ensures, c.unit-in-PublicMinus.ensures, c.none-in-PublicMinus.ensures, c.wires-wires.ensures, c.in-PublicMinus.is)
    (right_minus g.met.F.Field.laws (shape_of c.args.head.now) t w c.in-PublicMinus.j)

pub returns-in-RowMinus : goal.returns-in-RowMinus
returns-in-RowMinus g c = λ t w.
    rw (c.of_terms-in-RowMinus.ensures, c.unit-in-RowMinus.ensures, c.none-in-RowMinus.ensures, c.wires-wires.ensures, c.publics.ensures, c.in-RowMinus.is)
    (right_square g.met.F.Field.laws (shape_of c.args.head.now) t w c.in-RowMinus.i)

pub returns-in-RowPlus : goal.returns-in-RowPlus
returns-in-RowPlus g c = λ t w.
    rw (
      c.of_row.ensures,
      c.unit-in-RowPlus.ensures,
      c.mul.ensures,
      c.add-two.ensures,
      c.one.ensures,
      c.one-in-RowPlus.ensures,
      c.zero.ensures,
      c.zero-in-RowPlus.ensures,
      c.wires-wires.ensures,
      c.publics.ensures,
      c.in-RowPlus.is,
    )
    (right_product g.met.F.Field.laws (shape_of c.args.head.now) t w c.in-RowPlus.i)

pub returns-in-Empty : goal.returns-in-Empty
returns-in-Empty g c = λ t w.
    rw (c.of_terms-in-Empty.ensures, c.none-in-Empty.ensures, c.none-in-Empty-2.ensures, c.in-Empty.is) (right_empty g.met.F.Field.laws (shape_of c.args.head.now) t w)
