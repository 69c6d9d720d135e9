-- From the bytes of the constraint file to the outcome.
use Rattle.std.proofs.Common.{◌≡◌, ℕ, ◌≤◌, cond, eqb, leb, ◌⊎◌, List, length, Some, None, Ok, sym, refl, ap, ◌∙◌, subst, inl, inr}
use Rattle.std.proofs.lemmas.Bool.{le-leb, cases_Bool}
use Rattle.refusal.specs.Due.{Due}
use Rattle.frames.specs.Faults.{check}
use Rattle.sheet.specs.Outcomes.{Answer}
use Rattle.constraints.specs.declared.reader.RowReader.{RowReader}
use Rattle.constraints.specs.Opened.{opened}
use Rattle.constraints.specs.Circuit.{Circuit, Encodes}
use Rattle.constraints.specs.Reader.{again, Starts, Checked, ReadsCircuit}
use Rattle.solving.specs.Primes.{prime_by, prime_of}
use Rattle.writing.specs.declared.writer.Writer.{Writer}
use Rattle.report.specs.Outcome.{longest, Tells}
use Rattle.report.specs.Means.{ToldBy, TellsBy, Means}
use Rattle.report.proofs.Circuits.{due_none, tells_map}

either_prime : (due : Due) → (prime_by due ≡ 97) ⊎ (prime_by due ≡ 12289)
either_prime None = inl refl
either_prime (Some fault) =
    elim (cases_Bool (eqb fault.0 9)) [ inl e ↦ inr (ap (λ b. cond b 12289 97) e) | inr e ↦ inl (ap (λ b. cond b 12289 97) e) ]

module _ (xs ws : List ℕ) (old : Writer) where
  -- what is owed of a file of a right length
  right_length : length xs ≤ longest → check (leb (length xs) longest) 5 0 (opened xs (prime_of xs)) ≡ opened xs (prime_of xs)
  right_length h = ap (λ b. check b 5 0 (opened xs (prime_of xs))) (le-leb (length xs) longest h)

  pub told_opened : (s : RowReader) (r : Answer) (new : Writer) → length xs ≤ longest → Checked xs (prime_of xs) (Ok s) → ReadsCircuit xs (prime_of xs) (Ok s)
      → (s.header.prime ≡ 97 → TellsBy 97 s ws old r new) → (s.header.prime ≡ 12289 → TellsBy 12289 s ws old r new) → Tells (Means xs ws) old r new
  told_opened s r new h stood reads small large =
      let c = reads.0.0 in
      let encodes = reads.0.1 in
      let starts = reads.1 c encodes in
      let anew : Starts (again s) c = subst (λ t. Starts t c) stood.1.start starts in
      let prime : s.header.prime ≡ prime_of xs = starts.prime ∙ encodes.prime in
      tells_map (λ o told. due_none _ o _ (right_length h ∙ stood.0) (c, encodes, told)) old new r (tells c anew encodes prime)
    where
      tells : (c : Circuit) → Starts (again s) c → Encodes xs (prime_of xs) c → s.header.prime ≡ prime_of xs → Tells (ToldBy (prime_of xs) c ws) old r new
      tells c starts encodes prime =
          elim (either_prime (opened xs 97)) [
            | inl e ↦ subst (λ p. Tells (ToldBy p c ws) old r new) (sym e) (small (prime ∙ e) c starts encodes.proper (encodes.prime ∙ e))
            | inr e ↦ subst (λ p. Tells (ToldBy p c ws) old r new) (sym e) (large (prime ∙ e) c starts encodes.proper (encodes.prime ∙ e))
          ]
