use Rattle.square_rows.proofs.Records.{left_plus, left_minus, left_difference, left_sum, left_empty}
use Rattle.square_rows.proofs.combination.Combination.left_of.Goals as goal

pub returns-in-PublicPlus : goal.returns-in-PublicPlus
returns-in-PublicPlus g c = λ S t w.
    rw (c.of_terms.ensures, c.new.ensures, c.new-in-PublicPlus.ensures, c.one_half-half.ensures, c.in-PublicPlus.is) (left_plus g.met.F.Field.laws S t w c.in-PublicPlus.j)

pub returns-in-PublicMinus : goal.returns-in-PublicMinus
returns-in-PublicMinus g c = λ S t w.
    rw (c.of_terms-in-PublicMinus.ensures, c.new-in-PublicMinus.ensures, c.new-in-PublicMinus-2.ensures, c.neg.ensures, c.one_half-half.ensures, c.in-PublicMinus.is)
    (left_minus g.met.F.Field.laws S t w c.in-PublicMinus.j)

pub returns-in-RowMinus : goal.returns-in-RowMinus
returns-in-RowMinus g c = λ S t w.
    rw (c.of_row.ensures, c.none.ensures, c.neg-in-RowMinus.ensures, c.one-one.ensures, c.zero.ensures, c.in-RowMinus.is)
    (left_difference g.met.F.Field.laws S t w c.in-RowMinus.i)

pub returns-in-RowPlus : goal.returns-in-RowPlus
returns-in-RowPlus g c = λ S t w.
    rw (c.of_row-in-RowPlus.ensures, c.none-in-RowPlus.ensures, c.one-one.ensures, c.zero-in-RowPlus.ensures, c.in-RowPlus.is)
    (left_sum g.met.F.Field.laws S t w c.in-RowPlus.i)

pub returns-in-Empty : goal.returns-in-Empty
returns-in-Empty g c = λ S t w.
    rw (c.of_terms-in-Empty.ensures, c.none-in-Empty.ensures, c.none-in-Empty-2.ensures, c.in-Empty.is) (left_empty g.met.F.Field.laws S t w)
