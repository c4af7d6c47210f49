-- Tests and partial results of the rules: what they say of the parts that gave them, and the other way round.
use Prim.Native.Nat.{ℕ}
use mathlib.Core.Path.{◌≡◌, refl, ◌∙◌, ap, subst}
use mathlib.Core.Logic.{◌≢◌}
use mathlib.Core.Bool.{Bool, true, false, not}
use mathlib.Core.Option.{Option, none, some}
use mathlib.Core.List.{List, [], ◌∷◌}
use lib.Dec.{T, T_not, not_T, eqb, eqb→eq, eqb_refl}
use Rattle.lists.specs.Lists.{NotIn, Distinct}
use Rattle.lists.proofs.Options.{some_injective, none_some}
use Rattle.lists.proofs.Tests.{and→, →and, nor→, →nor}
use Rattle.calculus.specs.Rules.{guard, then, among, distinct}

-- ---- partial results

pub guard→ : {A : Type 0} (t : Bool) {a x : A} → guard t a ≡ some x → T t × (a ≡ x)
guard→ true e = (tt, some_injective e)
guard→ false e = absurd (none_some e)

pub →guard : {A : Type 0} (t : Bool) {a x : A} → T t → a ≡ x → guard t a ≡ some x
→guard true h e = ap some e
→guard false h e = absurd h

pub then→ : {A B : Type 0} (o : Option A) (f : A → Option B) {y : B} → then o f ≡ some y → (a : A) × (o ≡ some a) × (f a ≡ some y)
then→ none f e = absurd (none_some e)
then→ (some a) f e = (a, refl, e)

pub →then : {A B : Type 0} {o : Option A} (f : A → Option B) {a : A} {y : B} → o ≡ some a → f a ≡ some y → then o f ≡ some y
→then f e h = ap (λ o. then o f) e ∙ h

-- ---- different numbers

pub differ→ : (x y : ℕ) → T (not (eqb x y)) → x ≢ y
differ→ x y t e = T_not (eqb x y) t (subst (λ z. T (eqb x z)) e (eqb_refl x))

pub →differ : (x y : ℕ) → x ≢ y → T (not (eqb x y))
→differ x y h = not_T (eqb x y) (λ t. h (eqb→eq x y t))

among→ : (x : ℕ) (ys : List ℕ) → T (not (among x ys)) → NotIn x ys
among→ x [] t = tt
among→ x (y ∷ ys) t = let (h, hs) = nor→ (eqb x y) (among x ys) t in (differ→ x y h, among→ x ys hs)

→among : (x : ℕ) (ys : List ℕ) → NotIn x ys → T (not (among x ys))
→among x [] h = tt
→among x (y ∷ ys) (h, hs) = →nor (eqb x y) (among x ys) (→differ x y h) (→among x ys hs)

pub distinct→ : (xs : List ℕ) → T (distinct xs) → Distinct xs
distinct→ [] t = tt
distinct→ (x ∷ xs) t = let (h, g) = and→ (not (among x xs)) (distinct xs) t in (among→ x xs h, distinct→ xs g)

pub →distinct : (xs : List ℕ) → Distinct xs → T (distinct xs)
→distinct [] h = tt
→distinct (x ∷ xs) (h, hs) = →and (not (among x xs)) (distinct xs) (→among x xs h) (→distinct xs hs)
