use Rattle.std.proofs.Common.{◌≡◌, ℕ, Bool, true, leb, map, length, None, Ok, refl, ap, ◌∙◌, subst, arith, le-leb}
use Rattle.std.proofs.lemmas.Result.{err_from_is_err_and}
use Rattle.refusal.specs.Due.{unless}
use Rattle.sheet.specs.Shape.{Shape}
use Rattle.sheet.specs.Rules.{table_size}
use Rattle.sheet.specs.Outcomes.{Made, counted}
use Rattle.constraints.specs.Reader.{again}
use Rattle.constraints.specs.declared.header.Header.{Header}
use Rattle.constraints.specs.declared.reader.RowReader.{RowReader}
use Rattle.loading.specs.Rows.{item_count, rows_ahead, rows_of}
use Rattle.loading.specs.Entries.{line_below, entries_from, EntersAll}
use Rattle.loading.specs.Loaded.{file_shape, numbers_due}
use Rattle.loading.proofs.Owed.{due_passes, due_refused, due_entries}
use Rattle.loading.proofs.Filled.{filled}
use Rattle.loading.proofs.load.loaded.Goals as goal

pub returns-in_err-counts : goal.returns-in_err-counts
returns-in_err-counts g c =
    let s = c.args.reader in
    let p = err_from_is_err_and c.from_residual.result c.from_residual.ensures.1 in
    let owed = simp (c.header-header.ensures, c.prime_at-prime_at.ensures) at c.in_err-counts.ensures.0 in
    rw (p.1, p.2) (
      due_refused g.F.Field.ops g.F.FileField.prime s.header.prime s.prime_at (file_shape s.header) (length c.args.entries.now) (length c.args.values.now) _ _ owed,
      (refl, refl),
    )

pub returns : goal.returns
returns g c =
    let O = g.F.Field.ops in
    let p = g.F.FileField.prime in
    let s = c.args.reader in
    let es = c.args.entries.now in
    let vs = c.args.values.now in
    let H = c.header-header.result in
    let first = c.in_ok-head.head in
    let h-is : H ≡ s.header = c.header-header.ensures in
    let place_is = c.prime_at-prime_at.ensures in
    let checked = c.in_ok-counts.ensures in
    let counts_are : counted c.in_ok-counts.counts ≡ file_shape s.header = checked.1 ∙ ap file_shape h-is in
    let due : numbers_due O p s.header.prime s.prime_at (file_shape s.header) (length es) (length vs) None ≡ None =
    subst (λ (x : Header). numbers_due O p x.prime s.prime_at (file_shape x) (length es) (length vs) None ≡ None) h-is
    (subst (λ (a : ℕ). numbers_due O p H.prime a (file_shape H) (length es) (length vs) None ≡ None) place_is checked.0) in
    let made : Made O (file_shape s.header) vs (Ok first) c.make.new.values =
    subst (λ (S : Shape). Made O S vs (Ok first) c.make.new.values) counts_are c.in_ok-head.ensures in
    let from : c.restart.result ≡ again s = c.restart.ensures ∙ c.count_items.ensures.kept ∙ ap again c.restart-reader.ensures in
    let count : c.count_items.result ≡ item_count (rows_of s) = c.count_items.ensures.count ∙ ap (λ (x : RowReader). item_count (rows_ahead x)) c.restart-reader.ensures in
    let few : leb (item_count (rows_of s)) table_size ≡ true = le-leb _ _ (omega arith) in
    let all : EntersAll O first es (entries_from O 0 (map (line_below p) (rows_of s))) c.enter_rows.new.head c.enter_rows.new.entries =
    subst (λ (x : RowReader). EntersAll O first es (entries_from O 0 (map (line_below p) (rows_ahead x))) c.enter_rows.new.head c.enter_rows.new.entries) from c.enter_rows.ensures in (
      due_passes O p s.header.prime s.prime_at (file_shape s.header) (length es) (length vs) _ due ∙ ap (λ (b : Bool). unless b 4 None) few,
      filled O p s es vs first c.enter_rows.new.head c.enter_rows.new.entries c.make.new.values
          (due_entries O p s.header.prime s.prime_at (file_shape s.header) (length es) (length vs) None due) made all,
    )
