-- A made sheet whose entries were entered.
use Rattle.std.proofs.Common.{◌≡◌, ℕ, List, map, length, Ok, sym, subst}
use Rattle.field.specs.Operations.{Operations}
use Rattle.sheet.specs.Rules.{table_size}
use Rattle.sheet.specs.Outcomes.{Made}
use Rattle.sheet.specs.Model.{sheet, fresh, Stands}
use Rattle.sheet.specs.declared.head.Head.{Head}
use Rattle.sheet.specs.declared.entry.Entry.{Entry}
use Rattle.runs.proofs.Stands.{run_stands}
use Rattle.runs.proofs.Told.{made_stands}
use Rattle.constraints.specs.declared.reader.RowReader.{RowReader}
use Rattle.loading.specs.Rows.{rows_of}
use Rattle.loading.specs.Entries.{line_below, entries_from, enters, EntersAll}
use Rattle.loading.specs.Loaded.{file_shape, Filled}

module _ {F : Type 0} (O : Operations F) (p : ℕ) (s : RowReader) where
  pub filled : (es : List (Entry F)) (vs : List F) (first h : Head) (es' : List (Entry F)) (vs' : List F)
      → length es ≡ table_size → Made O (file_shape s.header) vs (Ok first) vs'
      → EntersAll O first es (entries_from O 0 (map (line_below p) (rows_of s))) h es'
      → Filled O p s es vs h es' vs'
  unfolding EntersAll
  filled es vs first h es' vs' table made all =
      let S = file_shape s.header in
      let run = all vs' in
      let start = subst (λ (v : List F). Stands O (sheet first es v) (fresh O S)) (sym made.1.1) (made_stands O S first made.1.0 (length vs) es made.0 table) in
      record {
        first = first;
        made = made;
        answers = run.0;
        run = run.1;
        stands = (run_stands O (enters O p (rows_of s)) run.0 (sheet first es vs') (sheet h es' vs') (fresh O S) run.1 start).0;
      }
