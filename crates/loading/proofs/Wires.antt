-- Values assigned one after another.
use Rattle.std.proofs.Common.{◌≡◌, ℕ, ◌+◌, ◌<◌, ◌≤◌, List, [], ◌∷◌, ◌++◌, map, length, take, set, None, Ok, sym, refl, ap, ◌∙◌, subst, append_assoc, append-nil, arith, length-set, lt-ltb, eq-eqb, le-leb}
use Rattle.std.proofs.lemmas.List.{take_more_set, take_all}
use Rattle.field.specs.Operations.{Operations, sum, ones}
use Rattle.field.specs.Laws.{Laws}
use Rattle.sheet.specs.Rules.{assign_due}
use Rattle.sheet.specs.Outcomes.{shape_of}
use Rattle.sheet.specs.Model.{sheet}
use Rattle.sheet.specs.declared.head.Head.{Head}
use Rattle.sheet.specs.declared.entry.Entry.{Entry}
use Rattle.runs.specs.Runs.{Assigns, Run}
use Rattle.assignments.specs.Assignment.{Encodes}
use Rattle.loading.specs.Assigns.{granted, assigns_from, assigns, NumbersAssign, ReadingAssigns}

module _ {F : Type 0} (O : Operations F) where
  one_assign : (h : Head) (es : List (Entry F)) (t : List F) (wire : ℕ) (x : F) → length t ≡ h.wires → 1 ≤ wire → wire < h.wires
      → Assigns O (sheet h es t) (sheet h es (set t wire x)) h.wires wire x (Ok tt)
  one_assign h es t wire x size some less =
      let due : assign_due (shape_of h) (length t) wire ≡ None = rw (eq-eqb (length t) h.wires size, le-leb 1 wire some, lt-ltb wire h.wires less) in
      record {
        given = t;
        given' = set t wire x;
        handed = record { right = λ _. (refl, refl); wrong = λ n. absurd (n refl) };
        outcome = (due, refl);
        head = refl;
        entries = refl;
      }

  assign_run : (h : Head) (es : List (Entry F)) (vs : List ℕ) (wire : ℕ) (t : List F) → length t ≡ h.wires → 1 ≤ wire → wire + length vs ≡ h.wires
      → Run O (sheet h es t) (assigns_from O h.wires wire vs) (granted (assigns_from O h.wires wire vs)) (sheet h es (take wire t ++ map (ones O) vs))
  assign_run h es [] wire t size some all =
      record { head = refl; entries = refl; values = append-nil (take wire t) ∙ take_all wire t (omega arith) }
  assign_run h es (v ∷ vs) wire t size some all =
      let x = ones O v in
      let less : wire < h.wires = omega arith in
      let next = assign_run h es vs (wire + 1) (set t wire x) (length-set t wire x ∙ size) (omega arith) (omega arith) in
      let same : take (wire + 1) (set t wire x) ++ map (ones O) vs ≡ take wire t ++ (x ∷ map (ones O) vs) =
      ap (λ l. l ++ map (ones O) vs) (take_more_set t wire x (omega arith)) ∙ append_assoc (take wire t) (x ∷ []) (map (ones O) vs) in (
        sheet h es (set t wire x),
        one_assign h es t wire x size some less,
        subst (λ (ws : List F). Run O (sheet h es (set t wire x)) (assigns_from O h.wires (wire + 1) vs) (granted (assigns_from O h.wires (wire + 1) vs)) (sheet h es ws)) same next,
      )

  ones_one : Laws O → ones O 1 ≡ O.one
  unfolding ones sum
  ones_one L = L.ring.add_comm O.zero O.one ∙ L.ring.add_zero O.one

  pub numbers_assign : Laws O → NumbersAssign O
  numbers_assign L h es t [] size one count first = absurd (omega (arith, first))
  numbers_assign L h es [] (v ∷ vs) size one count first = absurd (omega arith)
  numbers_assign L h es (x ∷ t) (v ∷ vs) size one count first =
      let head : x ≡ ones O v = one ∙ sym (ones_one L) ∙ ap (ones O) (sym first) in
      subst (λ (y : F). Run O (sheet h es (x ∷ t)) (assigns O h.wires (v ∷ vs)) (granted (assigns O h.wires (v ∷ vs))) (sheet h es (y ∷ map (ones O) vs))) head
      (assign_run h es vs 1 (x ∷ t) size (omega arith) (omega arith))

  pub reading_assigns_lem : Laws O → (p : ℕ) → ReadingAssigns O p
  reading_assigns_lem L p xs h es t u size one reads =
      let vs = reads.0.0 in
      let file : Encodes xs p (length t) vs = reads.0.1 in
      let run = numbers_assign L h es t vs size one (file.count ∙ size) file.first in (
        vs,
        subst (λ (n : ℕ). Encodes xs p n vs) size file,
        subst (λ (ws : List F). Run O (sheet h es t) (assigns O h.wires vs) (granted (assigns O h.wires vs)) (sheet h es ws)) (sym (reads.1 vs file)) run,
      )
