-- The first record of an answer that is out of its range, in words, over the strings and integers that the answer holds.
use Prim.Native.Nat.{ℕ, zero, suc, ◌+◌}
use native.Mathlib.Nat.{zero-add}
use native.Mathlib.Omega.{arith}
use mathlib.Core.Path.{◌≡◌, refl, sym, ◌∙◌, ap, subst}
use mathlib.Core.Logic.{◌⊎◌, inl, inr}
use mathlib.Core.Bool.{Bool, true, false}
use mathlib.Core.Option.{Option, none, some}
use mathlib.Core.List.{List, [], ◌∷◌}
use lib.ListN.{length}
use lib.IntN.{ℤ}
use Rattle.lists.specs.Lists.{All}
use Rattle.lists.proofs.Lists.{all_at}
use Rattle.lists.proofs.Searches.{FirstWithout, first_unique}
use Rattle.lists.proofs.Tests.{→true, true→}
use Rattle.calculus.specs.Alphabet.{Over, all_characters}
use Rattle.calculus.specs.Limits.{Small, value_limit}
use Rattle.calculus.specs.Facts.{Question}
use Rattle.calculus.proofs.Words.{over→, →over}
use Rattle.format.specs.Fields.{all_within}
use Rattle.format.specs.Records.{next}
use Rattle.format.specs.Places.{skip, text_at, texts}
use Rattle.format.specs.Answer.{integers_at, assignment_of, outside}
use Rattle.format.proofs.Faults.{not_both}
use Rattle.format.proofs.Limits.{→within, within→}

-- none, or that of a string, or that of the integers, which is after the strings
abbrev pub FirstOutside : ℕ → List (List ℕ) → List ℤ → Option ℕ → Type 0
FirstOutside n ss zs none = All (Over n) ss × All (Small value_limit) zs
FirstOutside n ss zs (some k) = FirstWithout (Over n) ss (some k) ⊎ ((k ≡ length ss) × All (Over n) ss × (All (Small value_limit) zs → ⊥))

-- there is one only
pub outside_unique : (n : ℕ) (ss : List (List ℕ)) (zs : List ℤ) (o i : Option ℕ) → FirstOutside n ss zs o → FirstOutside n ss zs i → o ≡ i
outside_unique n ss zs none none h g = refl
outside_unique n ss zs none (some k) (h, hs) (inl (s, at, no-s, before)) = absurd (no-s (all_at (Over n) ss k h at))
outside_unique n ss zs none (some k) (h, hs) (inr (l, _, no-z)) = absurd (no-z hs)
outside_unique n ss zs (some k) none (inl (s, at, no-s, before)) (h, hs) = absurd (no-s (all_at (Over n) ss k h at))
outside_unique n ss zs (some k) none (inr (l, _, no-z)) (h, hs) = absurd (no-z hs)
outside_unique n ss zs (some k) (some j) (inl h) (inl g) = first_unique (Over n) ss (some k) (some j) h g
outside_unique n ss zs (some k) (some j) (inl (s, at, no-s, before)) (inr (l, g, _)) = absurd (no-s (all_at (Over n) ss k g at))
outside_unique n ss zs (some k) (some j) (inr (l, h, _)) (inl (s, at, no-s, before)) = absurd (no-s (all_at (Over n) ss j h at))
outside_unique n ss zs (some k) (some j) (inr (l, _, _)) (inr (m, _, _)) = ap some (l ∙ sym m)

-- ---- judging finds it

-- counted from record r on
abbrev counted_from : ℕ → Option ℕ → Option ℕ
counted_from r none = none
counted_from r (some k) = some (r + k)

module _ (v : List ℕ) (u : Question) where
  -- what is found from record r at a position on, with p strings left
  abbrev FoundFrom : ℕ → ℕ → Option ℕ → List (List ℕ) → List ℤ → Type 0
  FoundFrom p r found ss zs = (o : Option ℕ) × (found ≡ counted_from r o) × FirstOutside u.n ss zs o

  one_more : (r k : ℕ) → suc r + k ≡ r + suc k
  one_more r k = omega arith

  found_from : (p r at : ℕ) → FoundFrom p r (outside v u p r at) (texts v p at) (integers_at v u.q (skip v p at))
  unfolding outside texts skip
  found_from zero r at = go (all_within value_limit zs) refl
    where
      zs : List ℤ
      zs = integers_at v u.q at

      go : (x : Bool) → all_within value_limit zs ≡ x → FoundFrom 0 r (elim x as (λ _. Option ℕ) [ true ↦ none | false ↦ some r ]) [] zs
      go true e = (none, refl, (tt, within→ value_limit zs e))
      go false e =
          (some 0, ap some (let z : r ≡ r + 0 = omega arith in z), inr (refl, tt, λ h. not_both (all_within value_limit zs) (→within value_limit zs h) e))
  found_from (suc p) r at = go (all_characters u.n s) refl (found_from p (suc r) (next v at))
    where
      s : List ℕ
      s = text_at v at

      ss : List (List ℕ)
      ss = texts v p (next v at)

      zs : List ℤ
      zs = integers_at v u.q (skip v p (next v at))

      later : Option ℕ
      later = outside v u p (suc r) (next v at)

      over : all_characters u.n s ≡ true → Over u.n s
      over e = over→ u.n s (true→ e)

      go : (x : Bool) → all_characters u.n s ≡ x → FoundFrom p (suc r) later ss zs
          → FoundFrom (suc p) r (elim x as (λ _. Option ℕ) [ true ↦ later | false ↦ some r ]) (s ∷ ss) zs
      go false e h = (
        some 0,
        ap some (let z : r ≡ r + 0 = omega arith in z),
        inl (s, refl, (λ h. not_both (all_characters u.n s) (→true (all_characters u.n s) (→over u.n s h)) e), tt),
      )
      go true e (none, q, (h, hs)) = (none, q, ((over e, h), hs))
      go true e (some k, q, inl (f, there, no-f, before)) = (some (suc k), q ∙ ap some (one_more r k), inl (f, there, no-f, (over e, before)))
      go true e (some k, q, inr (l, h, no-z)) = (some (suc k), q ∙ ap some (one_more r k), inr (ap suc l, (over e, h), no-z))

  pub outside_found : FirstOutside u.n (assignment_of v u).strs (assignment_of v u).ints (outside v u u.p 0 0)
  outside_found =
      let (o, e, h) = found_from u.p 0 0 in
      subst (FirstOutside u.n (assignment_of v u).strs (assignment_of v u).ints) (sym (e ∙ from_first o)) h
    where
      from_first : (o : Option ℕ) → counted_from 0 o ≡ o
      from_first none = refl
      from_first (some k) = ap some (zero-add k)

  -- where it finds none
  pub all_inside : outside v u u.p 0 0 ≡ none → All (Over u.n) (assignment_of v u).strs × All (Small value_limit) (assignment_of v u).ints
  all_inside e = subst (FirstOutside u.n (assignment_of v u).strs (assignment_of v u).ints) e outside_found
