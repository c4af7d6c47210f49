-- The children of a step in range on a branch in range are in range.
use Prim.Native.Nat.{ℕ, ◌+◌, ◌<◌}
use native.Mathlib.Omega.{arith}
use mathlib.Core.Path.{sym, subst}
use mathlib.Core.Logic.{inl, inr}
use mathlib.Core.List.{List, [], ◌∷◌, map}
use lib.ListN.{length}
use lib.IntN.{ℤ, pos, negsuc}
use Rattle.lists.specs.Lists.{All}
use Rattle.lists.proofs.Lists.{all_at}
use Rattle.calculus.specs.Alphabet.{code_ranges}
use Rattle.calculus.specs.LinearForms.{number, minus}
use Rattle.calculus.specs.Facts.{Question, Fact, Branch, Function, len, code, literal, apply, value_of}
use Rattle.calculus.specs.Steps.{Step, Sum, BranchOn, Apart, AConf, SConf, SProp, LIntro, LValid, CCollapse, CValid, CInj, Card, Join}
use Rattle.calculus.specs.Children.{code_child, pair_children_with, pair_children}
use Rattle.calculus.specs.Instances.{LastChild, Instance, IsStep}
use Rattle.calculus.specs.InRange.{HeadInRange, FactInRange, FactsInRange}
use Rattle.calculus.proofs.Entries.{Whole, whole_number, whole_column, whole_minus, whole_above, whole_below}

module _ (u : Question) (w : HeadInRange u) where
  whole_apply : (f : Function) (x : ℕ) → x < u.p → Whole (apply u f x)
  whole_apply len x h = whole_column (u.q + x) (omega (arith, w.strings, w.integers))
  whole_apply code x h = whole_column (u.q + (u.p + x)) (omega (arith, w.strings, w.integers))

  whole_difference : (f : Function) (x y : ℕ) → x < u.p → y < u.p → Whole (minus (apply u f x) (apply u f y))
  whole_difference f x y hx hy = whole_minus (apply u f x) (apply u f y) (whole_apply f x hx) (whole_apply f y hy)

  whole_value : (f : Function) (x : ℕ) (k : ℤ) → x < u.p → Whole (minus (apply u f x) (number k))
  whole_value f x k hx = whole_minus (apply u f x) (number k) (whole_apply f x hx) (whole_number k)

  abbrev InRange : List (List Fact) → Type 0
  InRange cs = All (FactsInRange u) cs

  pairs_with_range : (x : ℕ) (ys : List ℕ) (more : List (List Fact)) → x < u.p → All (λ y. y < u.p) ys → InRange more → InRange (pair_children_with x ys more)
  pairs_with_range x [] more h g m = m
  pairs_with_range x (y ∷ ys) more h (gy, g) m = (((h, gy), tt), pairs_with_range x ys more h g m)

  pairs_range : (xs : List ℕ) (more : List (List Fact)) → All (λ y. y < u.p) xs → InRange more → InRange (pair_children xs more)
  pairs_range [] more g m = m
  pairs_range (x ∷ xs) more (gx, g) m = pairs_with_range x xs (pair_children xs more) gx g (pairs_range xs more g m)

  last_range : (x m : ℕ) (cs : List (List Fact)) → x < u.p → LastChild u x m cs → InRange cs
  last_range x m cs h (inl (e, p)) = subst InRange (sym p) tt
  last_range x m cs h (inr (e, p)) = subst InRange (sym p.adds) ((whole_value len x (pos p.power) h, tt), tt)

  codes_range : (x : ℕ) (rs : List (ℕ × ℕ)) → x < u.p → InRange (map (code_child u x) rs)
  codes_range x [] h = tt
  codes_range x (r ∷ rs) h =
      let c = whole_apply code x h in (
        (whole_above (apply u len x) (whole_apply len x h), (c, (whole_minus (number (pos r.1)) (apply u code x) (whole_number (pos r.1)) c, tt))),
        codes_range x rs h,
      )

  pub children_in_range : (b : Branch) (st : Step) (cs : List (List Fact)) → FactsInRange u b → IsStep u st → Instance u b st cs → All (FactsInRange u) cs
  unfolding Instance IsStep
  children_in_range b (Sum d ts) cs r g i = subst InRange (sym i.adds) ((i.size, tt), tt)
  children_in_range b (BranchOn e) cs r g i = subst InRange (sym i) ((g, tt), ((whole_below e g, tt), tt))
  children_in_range b (Apart k) cs r g i = let h : Whole i.form = all_at (FactInRange u) b k r i.named in
      subst InRange (sym i.adds) ((whole_above i.form h, tt), ((whole_below i.form h, tt), tt))
  children_in_range b (AConf k) cs r g i = subst InRange (sym i.closes) tt
  children_in_range b SConf cs r g i = subst InRange (sym i.closes) tt
  children_in_range b (SProp f x y) cs r (hx, hy) i = subst InRange (sym i.adds) ((whole_difference f x y hx hy, tt), tt)
  children_in_range b (LIntro x) cs r g i = subst InRange (sym i.adds) ((whole_value len x (value_of len (literal u i.held)) g, tt), tt)
  children_in_range b (LValid x) cs r g i = subst InRange (sym i) (((g, omega arith), tt), ((whole_above (apply u len x) (whole_apply len x g), tt), tt))
  children_in_range b (CCollapse x) cs r g i = subst InRange (sym i.adds) ((whole_value code x (value_of code (literal u i.held)) g, tt), tt)
  children_in_range b (CValid x) cs r g i =
      subst InRange (sym i) ((whole_above (apply u len x) (whole_apply len x g), (whole_value code x (negsuc 0) g, tt)), codes_range x (code_ranges u.n) g)
  children_in_range b (CInj x y) cs r (hx, hy) i =
      subst InRange (sym i.adds) ((whole_value code x (negsuc 0) hx, tt), ((whole_difference code x y hx hy, tt), (((hx, hy), tt), tt)))
  children_in_range b (Card []) cs r g i = absurd i
  children_in_range b (Card (x ∷ [])) cs r g i = absurd i
  children_in_range b (Card (x ∷ y ∷ xs)) cs r g i =
      subst InRange (sym i.adds) (pairs_range (x ∷ y ∷ xs) i.last g.0 (last_range x (length (x ∷ y ∷ xs)) i.last g.0.0 i.last_child_law))
  children_in_range b (Join j k) cs r g i = subst InRange (sym i.adds) ((all_at (FactInRange u) b j r i.first, tt), tt)
