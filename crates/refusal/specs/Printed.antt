-- How an answer is printed.
use Rattle.std.specs.Prelude.{ℕ, List, ◌++◌, codes, decimal, Result}
use Rattle.std.specs.declared.result.Result.TheVariants.{Ok, Err}
use Rattle.refusal.specs.Numbers.{number_of}
use Rattle.refusal.specs.declared.refused.Refused.{Refused}

abbrev pub answer_text : Result (Unit {0}) Refused → List ℕ
answer_text (Ok _) = codes "granted"
answer_text (Err e) = codes "refused " ++ decimal (number_of e.reason) ++ codes " " ++ decimal e.at
