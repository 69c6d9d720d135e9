-- Entries entered one after another.
use Rattle.std.proofs.Common.{◌≡◌, ℕ, Bool, true, false, cond, ltb, List, [], ◌∷◌, ◌++◌, map, sym, refl, ap, ◌∙◌, subst}
use mathlib.Core.List.{map-append}
use Rattle.field.specs.Operations.{Operations}
use Rattle.sheet.specs.Outcomes.{Answer, Entered, entry}
use Rattle.sheet.specs.Model.{Sheet, sheet}
use Rattle.sheet.specs.declared.head.Head.{Head}
use Rattle.sheet.specs.declared.entry.Entry.{Entry}
use Rattle.sheet.specs.declared.call.Call.{Call}
use Rattle.runs.specs.Runs.{Same, Run}
use Rattle.constraints.specs.declared.item.Item.{Item}
use Rattle.loading.specs.Entries.{below, list_entries, enter_call, EntersAll}

module _ {F : Type 0} (O : Operations F) where
  same_sheet : (s t : Sheet F) → Same O s t → t ≡ s
  same_sheet s t e = λ i. record { head = e.head i; entries = e.entries i; values = e.values i }

  run_append : (cs : List (Call F)) (rs : List Answer) (s t : Sheet F) (ds : List (Call F)) (us : List Answer) (u : Sheet F)
      → Run O s cs rs t → Run O t ds us u → Run O s (cs ++ ds) (rs ++ us) u
  run_append [] [] s t ds us u x y = subst (λ (v : Sheet F). Run O v ds us u) (same_sheet s t x) y
  run_append [] (r ∷ rs) s t ds us u x y = absurd x
  run_append (c ∷ cs) [] s t ds us u x y = absurd x
  run_append (c ∷ cs) (r ∷ rs) s t ds us u x y = (x.0, x.1, run_append cs rs x.0 t ds us u x.2 y)

  pub enters_none : (h : Head) (es : List (Entry F)) → EntersAll O h es [] h es
  unfolding EntersAll
  enters_none h es vs = ([], record { head = refl; entries = refl; values = refl })

  pub enters_both : (h : Head) (es ns : List (Entry F)) (h' : Head) (es' ms : List (Entry F)) (h'' : Head) (es'' : List (Entry F))
      → EntersAll O h es ns h' es' → EntersAll O h' es' ms h'' es'' → EntersAll O h es (ns ++ ms) h'' es''
  unfolding EntersAll
  enters_both h es ns h' es' ms h'' es'' x y vs =
      let a = x vs in
      let b = y vs in
      let r = run_append (map enter_call ns) a.0 (sheet h es vs) (sheet h' es' vs) (map enter_call ms) b.0 (sheet h'' es'' vs) a.1 b.1 in
      (a.0 ++ b.0, subst (λ (cs : List (Call F)). Run O (sheet h es vs) cs (a.0 ++ b.0) (sheet h'' es'' vs)) (sym (map-append enter_call ns ms)) r)

  pub enters_one : (h : Head) (es : List (Entry F)) (matrix row wire : ℕ) (x : F) (r : Answer) (h' : Head) (es' : List (Entry F))
      → Entered h es matrix row wire x r h' es' → EntersAll O h es (entry matrix row wire x ∷ []) h' es'
  unfolding EntersAll
  enters_one h es matrix row wire x r h' es' e vs = (
    r ∷ [],
    (
      sheet h' es' vs,
      record {
        given = es;
        given' = es';
        handed = record { right = λ _. (refl, refl); wrong = λ n. absurd (n refl) };
        outcome = e;
        values = refl;
      },
      record { head = refl; entries = refl; values = refl },
    ),
  )

below_cons : (p : ℕ) (i : Item) (is : List Item) → below p (i ∷ is) ≡ below p (i ∷ []) ++ below p is
below_cons p i is = go (ltb i.coefficient p)
  where
    go : (b : Bool) → cond b (i ∷ below p is) (below p is) ≡ cond b (i ∷ []) [] ++ below p is
    go true = refl
    go false = refl

module _ {F : Type 0} (O : Operations F) (p : ℕ) where
  pub entries_cons : (matrix row : ℕ) (i : Item) (is js : List Item) → js ≡ i ∷ is
      → list_entries O matrix row (below p js) ≡ list_entries O matrix row (below p (i ∷ [])) ++ list_entries O matrix row (below p is)
  entries_cons matrix row i is js e =
      ap (λ xs. list_entries O matrix row (below p xs)) e ∙ ap (list_entries O matrix row) (below_cons p i is) ∙ map-append _ (below p (i ∷ [])) (below p is)

  -- the entries that are left, after the first of them
  pub enters_first : (h : Head) (es ns : List (Entry F)) (h' : Head) (es' ms : List (Entry F)) (h'' : Head) (es'' all : List (Entry F))
      → EntersAll O h es ns h' es' → all ≡ ns ++ ms → EntersAll O h' es' ms h'' es'' → EntersAll O h es all h'' es''
  enters_first h es ns h' es' ms h'' es'' all x e y =
      subst (λ (xs : List (Entry F)). EntersAll O h es xs h'' es'') (sym e) (enters_both O h es ns h' es' ms h'' es'' x y)
