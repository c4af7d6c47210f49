-- An array that `map` makes of another one by a closure that computes a function.
use mathlib.Core.Path.{◌≡◌, sym, ◌∙◌, subst}
use mathlib.Core.List.{List, map}
use Prim.Native.Nat.{ℕ, zero, suc, ◌+◌, ◌≤◌, ◌<◌}
use native.Mathlib.Omega.{arith}
use native.Mathlib.Decide.{ℕ_discrete}
use denote.Param.Members.{Mut}
use lib.ListN.{length, get_or, length-map}
use lib.Seq.{ext_get_or}
use Rattle.std.specs.Fn.{Called}
use Rattle.std.specs.Array.{IsMapOf, MapsFrom}
use Rattle.lists.proofs.Lists.{get_d_map}

module _ {F A B : Type 0} (g : Mut F (A × Unit {0}) B) (h : A → B) (f : F) (xs : List A) (ys : List B) (a : A) (b : B) where
  at_each : ((x : A) (r : B) (q : F) → Called g f (x, tt) r q → (q ≡ f) × (r ≡ h x))
      → (i n : ℕ) → MapsFrom g f xs ys i n → (k : ℕ) → i ≤ k → k < i + n → get_or ys k b ≡ h (get_or xs k a)
  at_each calls i zero m k l r = absurd (omega arith)
  at_each calls i (suc n) (q, x, y, there, made, called, rest) k l r =
      let (kept, is) = calls x y q called in
      go is (ℕ_discrete k i) (at_each calls (i + 1) n (subst (λ p. MapsFrom g p xs ys (i + 1) n) kept rest) k)
    where
      go : y ≡ h x → Dec (k ≡ i) → (i + 1 ≤ k → k < i + 1 + n → get_or ys k b ≡ h (get_or xs k a)) → get_or ys k b ≡ h (get_or xs k a)
      go is (yes e) ih = rw (e, made.1 b, there.1 a) is
      go is (no e) ih = ih (omega arith) (omega arith)

  pub array_mapped : (n : ℕ) → IsMapOf g f xs ys n → length xs ≡ n
      → ((x : A) (r : B) (q : F) → Called g f (x, tt) r q → (q ≡ f) × (r ≡ h x))
      → ys ≡ map h xs
  array_mapped n m e calls =
      ext_get_or b ys (map h xs) (m.long ∙ sym (length-map xs h ∙ e))
      (λ k l. at_each calls 0 n m.each k (omega arith) (omega (arith, m.long)) ∙ sym (get_d_map h xs k a b (omega (arith, m.long))))
