-- Card's children by number.
use Prim.Native.Nat.{ℕ, zero, suc, ◌+◌, ◌*◌, ◌-◌, ◌≤◌, ◌<◌}
use native.Mathlib.Omega.{arith}
use mathlib.Core.Path.{◌≡◌, refl, sym, ◌∙◌, ap}
use mathlib.Core.List.{List, [], ◌∷◌}
use lib.ListN.{length, get_or}
use Rattle.calculus.specs.Facts.{Fact, same}
use Rattle.calculus.specs.Children.{pair_children_with, pair_children}
use Rattle.format.specs.Fields.{u16, u16s}
use Rattle.format.proofs.Fields.{length_u16s}
use Rattle.steps.proofs.Variables.{u16s_one_more, u16s_at}

with_here : (x : ℕ) (ys : List ℕ) (more : List (List Fact)) (j : ℕ) → j < length ys → get_or (pair_children_with x ys more) j [] ≡ same x (get_or ys j 0) ∷ []
with_here x [] more j h = absurd (omega arith)
with_here x (y ∷ ys) more zero h = refl
with_here x (y ∷ ys) more (suc j) h = with_here x ys more j (omega arith)

with_there : (x : ℕ) (ys : List ℕ) (more : List (List Fact)) (j : ℕ) → length ys ≤ j → get_or (pair_children_with x ys more) j [] ≡ get_or more (j - length ys) []
with_there x [] more j h = let e : j - 0 ≡ j = omega arith in ap (λ i. get_or more i []) (sym e)
with_there x (y ∷ ys) more zero h = absurd (omega arith)
with_there x (y ∷ ys) more (suc j) h =
    let e : j - length ys ≡ suc j - suc (length ys) = omega arith in
    with_there x ys more j (omega arith) ∙ ap (λ i. get_or more i []) e

with_length : (x : ℕ) (ys : List ℕ) (more : List (List Fact)) → length (pair_children_with x ys more) ≡ length ys + length more
with_length x [] more = omega arith
with_length x (y ∷ ys) more = omega (arith, with_length x ys more)

-- the variable at a position, with the others after it
module _ (b : List ℕ) (i others : ℕ) (more : List (List Fact)) where
  split_first : pair_children (u16s b i (others + 1)) more ≡ pair_children_with (u16 b i) (u16s b (i + 2) others) (pair_children (u16s b (i + 2) others) more)
  split_first = ap (λ l. pair_children l more) (u16s_one_more b i others)

  pub pair_here : (j : ℕ) → j < others → get_or (pair_children (u16s b i (others + 1)) more) j [] ≡ same (u16 b i) (u16 b (i + 2 + 2 * j)) ∷ []
  pair_here j h =
      ap (λ l. get_or l j []) split_first
      ∙ with_here (u16 b i) (u16s b (i + 2) others) (pair_children (u16s b (i + 2) others) more) j (rw (length_u16s b (i + 2) others) h)
      ∙ ap (λ y. same (u16 b i) y ∷ []) (u16s_at b (i + 2) others j h)

  pub pair_there : (j : ℕ)
      → 0 < others
      → others ≤ j
      → get_or (pair_children (u16s b (i + 2) (others - 1 + 1)) more) (j - others) [] ≡ get_or (pair_children (u16s b i (others + 1)) more) j []
  pair_there j some h =
      let e : others - 1 + 1 ≡ others = omega arith in
      ap (λ n. get_or (pair_children (u16s b (i + 2) n) more) (j - others) []) e
      ∙ sym (ap (λ l. get_or l j []) split_first
      ∙ with_there (u16 b i) (u16s b (i + 2) others) (pair_children (u16s b (i + 2) others) more) j (rw (length_u16s b (i + 2) others) h)
      ∙ ap (λ n. get_or (pair_children (u16s b (i + 2) others) more) (j - n) []) (length_u16s b (i + 2) others))

  pub pair_count : 0 < others → length (pair_children (u16s b i (others + 1)) more) ≡ others + length (pair_children (u16s b (i + 2) (others - 1 + 1)) more)
  pair_count some =
      let e : others - 1 + 1 ≡ others = omega arith in
      ap length split_first
      ∙ with_length (u16 b i) (u16s b (i + 2) others) (pair_children (u16s b (i + 2) others) more)
      ∙ rw (length_u16s b (i + 2) others, e)

  pub pairs_none : others ≤ 0 → pair_children (u16s b i (others + 1)) more ≡ more
  unfolding u16s
  pairs_none h = let e : others ≡ 0 = omega arith in ap (λ n. pair_children (u16s b i (n + 1)) more) e
