-- What holds of the model of every list of calls: one stands on wire 0, and each entry lies within the sheet.
use Rattle.std.proofs.Common.{◌≡◌, ℕ, ◌≤◌, true, eqb, ltb, leb, ◌≢◌, List, [], ◌∷◌, ◌++◌, Some, None, refl, ◌∙◌, arith, get_or-set_other}
use Rattle.std.proofs.lemmas.Bool.{and_parts, and_from, leb-true}
use Rattle.refusal.specs.Due.{Due}
use Rattle.field.specs.Operations.{Operations}
use Rattle.transform.specs.Polynomial.{coefficient}
use Rattle.sheet.specs.Shape.{Shape}
use Rattle.sheet.specs.Rules.{table_size, inside}
use Rattle.sheet.specs.Outcomes.{entry}
use Rattle.sheet.specs.Model.{Model, fresh, with_entry, with_value, after, after_all}
use Rattle.sheet.specs.declared.entry.Entry.{Entry}
use Rattle.sheet.specs.declared.call.Call.{Call}
use Rattle.sheet.specs.declared.call.Call.TheVariants.{Enter, Assign, Extend, Quotient, Public}
use Rattle.square.specs.Rules.{all_inside}
use Rattle.runs.proofs.Stands.{line_passed}

pub record Sound {F : Type 0} (O : Operations F) (b : Model F) : Type 0 where
  pub one : coefficient O b.values 0 ≡ O.one
  pub within : all_inside b.shape b.entries ≡ true

module _ {F : Type 0} where
  inside_push : (S : Shape) (es : List (Entry F)) (e : Entry F) → all_inside S es ≡ true → inside S e.matrix e.row e.wire ≡ true → all_inside S (es ++ e ∷ []) ≡ true
  inside_push S [] e h k = and_from _ _ k refl
  inside_push S (x ∷ es) e h k =
      let p = and_parts (inside S x.matrix x.row x.wire) (all_inside S es) h in
      and_from _ _ p.0 (inside_push S es e p.1 k)

module _ {F : Type 0} (O : Operations F) where
  entry_sound : (due : Due) (e : Entry F) (b : Model F) → (due ≡ None → inside b.shape e.matrix e.row e.wire ≡ true) → Sound O b → Sound O (with_entry due e b)
  entry_sound None e b h s = record { one = s.one; within = inside_push b.shape b.entries e s.within (h refl) }
  entry_sound (Some _) e b h s = s

  value_sound : (due : Due) (wire : ℕ) (x : F) (b : Model F) → (due ≡ None → 1 ≤ wire) → Sound O b → Sound O (with_value due wire x b)
  value_sound None wire x b h s =
      let k : 1 ≤ wire = h refl in
      let ne : 0 ≢ wire = omega arith in
      record { one = get_or-set_other b.values wire 0 x O.zero ne ∙ s.one; within = s.within }
  value_sound (Some _) wire x b h s = s

  after_sound : (b : Model F) (c : Call F) → Sound O b → Sound O (after b c)
  after_sound b (Enter listed matrix row wire x) s =
      entry_sound _ (entry matrix row wire x) b (λ h. (line_passed _ 3 _ (line_passed (eqb listed table_size) 5 _ h).1).0) s
  after_sound b (Assign listed wire x) s =
      value_sound _ wire x b
      (λ h.
      let t = (line_passed _ 3 _ (line_passed (eqb listed b.shape.m) 5 _ h).1).0 in
      leb-true 1 wire (and_parts (leb 1 wire) (ltb wire b.shape.m) t).0)
      s
  after_sound b (Extend _ _ _) s = s
  after_sound b (Quotient _ _ _ _) s = s
  after_sound b (Public _ _) s = s

  pub all_sound : (cs : List (Call F)) (b : Model F) → Sound O b → Sound O (after_all b cs)
  all_sound [] b s = s
  all_sound (c ∷ cs) b s = all_sound cs (after b c) (after_sound b c s)

  pub fresh_sound : (S : Shape) → Sound O (fresh O S)
  fresh_sound S = record { one = refl; within = refl }

-- ── The shape stays ──

module _ {F : Type 0} where
  entry_shape : (due : Due) (e : Entry F) (b : Model F) → (with_entry due e b).shape ≡ b.shape
  entry_shape None e b = refl
  entry_shape (Some _) e b = refl

  value_shape : (due : Due) (wire : ℕ) (x : F) (b : Model F) → (with_value due wire x b).shape ≡ b.shape
  value_shape None wire x b = refl
  value_shape (Some _) wire x b = refl

  pub after_shape : (b : Model F) (c : Call F) → (after b c).shape ≡ b.shape
  after_shape b (Enter _ _ _ _ _) = entry_shape _ _ b
  after_shape b (Assign _ wire x) = value_shape _ wire x b
  after_shape b (Extend _ _ _) = refl
  after_shape b (Quotient _ _ _ _) = refl
  after_shape b (Public _ _) = refl

  pub all_shape : (cs : List (Call F)) (b : Model F) → (after_all b cs).shape ≡ b.shape
  all_shape [] b = refl
  all_shape (c ∷ cs) b = all_shape cs (after b c) ∙ after_shape b c
