use Rattle.worked.proofs.Sheets.{bare_sheet, square_one_holds, square_one_fails, square_root_sheet}
use Rattle.worked.proofs.Entries.{entries_add}
use Rattle.worked.proofs.Fields.{fields}
use Rattle.worked.proofs.worked_sheets.Goals as goal

pub returns : goal.returns
returns c = record {
  bare_sheet = bare_sheet;
  square_one_holds = square_one_holds;
  square_one_fails = square_one_fails;
  square_root_sheet = square_root_sheet;
  entries_add = entries_add;
  fields = fields;
}
