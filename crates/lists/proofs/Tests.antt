-- Tests: what a test that is passed says of the tests it is made of, and the other way round.
use mathlib.Core.Path.{◌≡◌, refl, sym, subst}
use mathlib.Core.Logic.{◌⊎◌, inl, inr}
use mathlib.Core.Bool.{Bool, true, false, not, ◌&&◌, ◌||◌, false≢true}
use Prim.Native.Nat.{ℕ}
use lib.Dec.{T, eqb, eqb→eq}
use borrow.Author.Tests.{eq-eqb}

pub →true : (a : Bool) → T a → a ≡ true
→true true t = refl
→true false t = absurd t

pub true→ : {a : Bool} → a ≡ true → T a
true→ e = subst T (sym e) tt

pub and→ : (a b : Bool) → T (a && b) → T a × T b
and→ true b t = (tt, t)
and→ false b t = absurd t

-- the same as equations
pub and_both : (a b : Bool) → (a && b) ≡ true → (a ≡ true) × (b ≡ true)
and_both true b e = (refl, e)
and_both false b e = absurd (false≢true e)

pub →and_both : (a b : Bool) → a ≡ true → b ≡ true → (a && b) ≡ true
→and_both true b e f = f
→and_both false b e f = e

pub →and : (a b : Bool) → T a → T b → T (a && b)
→and true b s t = t
→and false b s t = absurd s

pub or→ : (a b : Bool) → T (a || b) → T a ⊎ T b
or→ true b t = inl tt
or→ false b t = inr t

pub →or_left : (a b : Bool) → T a → T (a || b)
→or_left true b t = tt
→or_left false b t = absurd t

pub →or_right : (a b : Bool) → T b → T (a || b)
→or_right true b t = tt
→or_right false b t = t

pub nor→ : (a b : Bool) → T (not (a || b)) → T (not a) × T (not b)
nor→ true b t = absurd t
nor→ false b t = (tt, t)

pub nor_both : (a b : Bool) → not (a || b) ≡ true → (not a ≡ true) × (not b ≡ true)
nor_both true b e = absurd (false≢true e)
nor_both false b e = (refl, e)

pub →nor : (a b : Bool) → T (not a) → T (not b) → T (not (a || b))
→nor true b s t = absurd s
→nor false b s t = t

-- two tests of one meaning
pub equal_tests : (a b : Bool) → (T a → T b) → (T b → T a) → a ≡ b
equal_tests true true f g = refl
equal_tests true false f g = absurd (f tt)
equal_tests false true f g = absurd (g tt)
equal_tests false false f g = refl

-- equality of numbers is the same from both sides
pub eqb_turned : (m n : ℕ) → eqb m n ≡ eqb n m
eqb_turned m n =
    equal_tests (eqb m n) (eqb n m) (λ h. true→ (eq-eqb n m (sym (eqb→eq m n h)))) (λ h. true→ (eq-eqb m n (sym (eqb→eq n m h))))
