-- The field with the fewest doublings, as it was chosen.
use Rattle.std.proofs.Common.{◌≡◌, ℕ, ◌+◌, ◌-◌, ◌*◌, ◌^◌, ◌≤◌, min, true, cond, ◌&&◌, leb, List, ap, ◌∙◌, subst, inl, inr, arith}
use lib.Pow.{pow-lt}
use Rattle.std.proofs.lemmas.Bool.{and_parts, cases_Bool, cases_lt, leb-true}
use Rattle.sheet.specs.Shape.{Shape, log_of_n, k, n}
use Rattle.sheet.specs.Rules.{in_limits}
use Rattle.sheet.specs.Outcomes.{Answer, shape}
use Rattle.sheet.proofs.Powers.{log_up_least}
use Rattle.constraints.specs.declared.reader.RowReader.{RowReader}
use Rattle.constraints.specs.Circuit.{Circuit}
use Rattle.constraints.specs.Reader.{again, Starts}
use Rattle.loading.specs.Loaded.{file_shape, circuit_shape}
use Rattle.writing.specs.declared.writer.Writer.{Writer}
use Rattle.report.specs.Outcome.{Surveyed, TellsCircuit}
use Rattle.report.specs.Means.{field_of, doublings, TellsBy}
use Rattle.report.proofs.Circuits.{tells_map}

-- the shape by the reader's numbers is the circuit's
pub same_shape : (s : RowReader) (c : Circuit) → Starts (again s) c → file_shape s.header ≡ circuit_shape c
same_shape s c starts i = shape (starts.wires i) (1 + starts.outputs i + starts.inputs i) (starts.rows i)

-- the text over the field that was chosen is the text over the field that is to be chosen
pub tells_by : (prime d : ℕ) (s : RowReader) (ws : List ℕ) (old new : Writer) (r : Answer) → d ≡ doublings prime (file_shape s.header)
    → TellsCircuit (field_of prime d).ops (field_of prime d).coordinates prime d s ws old r new → TellsBy prime s ws old r new
tells_by prime d s ws old new r chosen tells c starts proper same =
    let right : d ≡ doublings prime (circuit_shape c) = chosen ∙ ap (doublings prime) (same_shape s c starts) in
    tells_map (λ o. subst (λ e. Surveyed (field_of prime e).ops (field_of prime e).coordinates prime e c ws o) right) old new r (tells c starts proper same)

-- ── No sheet needs more than 2,048 rows ──

exponents : (a b : ℕ) → 2 ^ a ≤ 2 ^ b → a ≤ b
exponents a b h = elim (cases_lt b a) [ inl lt ↦ absurd (omega (arith, pow-lt {i = b} {j = a} lt)) | inr le ↦ le ]

module _ (S : Shape) (h : in_limits S ≡ true) where
  pub rows_few : log_of_n S ≤ 11
  rows_few =
      let parts = (and_parts (leb 1 S.m && leb S.m 2048) _ h).1 in
      let few_publics : S.l ≤ 256 = leb-true _ _ (and_parts (leb 1 S.l) _ (and_parts (leb 1 S.l && leb S.l 256) _ parts).0).1 in
      let few_rows : S.N ≤ 512 = leb-true _ _ (and_parts (leb S.l S.m) _ (and_parts (leb 1 S.l && leb S.l 256) _ parts).1).1 in
      let multiples : k S ≤ 2 ^ 9 = (log_up_least (2 * S.l)).least 9 (omega arith) in
      let rows : n S ≤ 2 ^ 11 = (log_up_least (k S + 2 * S.N)).least 11 (omega arith) in
      exponents (log_of_n S) 11 rows

pub never_doubled : (S : Shape) → doublings 12289 S ≡ 0
never_doubled S = elim (cases_Bool (in_limits S)) [
  | inl h ↦
      let none : log_of_n S - 12 ≡ 0 = omega (arith, rows_few S h) in
      ap (λ b. cond b (min (log_of_n S - 12) 2) 0) h ∙ ap (λ d. min d 2) none
  | inr h ↦ ap (λ b. cond b (min (log_of_n S - 12) 2) 0) h
]
