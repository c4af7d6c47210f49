-- The loop that sums a form: what is left of it, and that no sum of products wraps.
use Prim.Native.Nat.{ℕ, ◌+◌, ◌*◌, ◌≤◌, ◌<◌}
use native.Mathlib.Omega.{arith}
use mathlib.Core.Path.{◌≡◌, sym, ◌∙◌, ap₂}
use mathlib.Core.Bool.{true}
use mathlib.Core.List.{List, [], ◌∷◌}
use lib.ListN.{length, get_or}
use lib.IntN.{ℤ, pos, nat_abs, ◌+ℤ◌, ◌*ℤ◌, +ℤ_idr, +ℤ_assoc}
use borrow.Author.Tests.{leb-true}
use mir.Syntax.{w32, w64}
use mir.Val.{SFits, to_z, of_z}
use mir.Facts.{to_z-of_z}
use Rattle.lists.proofs.Tests.{and_both}
use Rattle.integers.proofs.Laws.{abs_*_le, abs_+_le, sfits_abs}
use Rattle.calculus.specs.Limits.{number_limit}
use Rattle.calculus.specs.LinearForms.{dot}
use Rattle.format.specs.Fields.{i32, pairs_at, within}
use Rattle.format.specs.Question.{rising, form_of}
use Rattle.format.proofs.Fields.{length_pairs}
use Rattle.format.proofs.Sums.{pair_sum, form_value, Ranged, ranged}
use Rattle.judging.specs.Ready.{FormIn}

-- the most that one product may come to: 1,000,000,000 times 100,000,000
abbrev product : ℕ
product = 100000000000000000

module _ (b : List ℕ) (at count : ℕ) (values : List ℤ) where
  -- the sum so far, with these pairs to come
  pub record Summing (sum : ℤ) (ts : List (ℕ × ℤ)) : Type 0 where
    pub low : ℕ
    pub rises : rising (length values) low ts ≡ true
    pub whole : sum +ℤ pair_sum values ts ≡ dot (form_of b at count) (pos 1 ∷ values)
    pub room : nat_abs sum + product * length ts ≤ number_limit + product * count

  pub begin : FormIn b at count values → Summing (i32 b at) (pairs_at b (at + 4) count)
  begin f =
      let (c, r) = and_both (within number_limit (i32 b at)) (rising (length values) 0 (pairs_at b (at + 4) count)) f.is_in_range in
      record {
        low = 0;
        rises = r;
        whole = sym (form_value b (length values) at count values f.few_columns f.is_in_range);
        room = omega (arith, leb-true (nat_abs (i32 b at)) number_limit c, length_pairs b (at + 4) count);
      }

  pub ended : {sum : ℤ} → Summing sum [] → sum ≡ dot (form_of b at count) (pos 1 ∷ values)
  unfolding pair_sum
  ended {sum} s = sym (+ℤ_idr sum) ∙ s.whole

  -- one pair more
  module _ (f : FormIn b at count values) (sum : ℤ) (t : ℕ × ℤ) (ts : List (ℕ × ℤ)) (s : Summing sum (t ∷ ts)) where
    in_turn : Ranged (length values) s.low t ts
    in_turn = ranged (length values) s.low t ts s.rises

    pub coefficient_fits : SFits w32 t.1
    coefficient_fits = sfits_abs t.1 (omega (arith, in_turn.coefficient))

    abbrev term : ℤ
    term = t.1 *ℤ get_or values t.0 (pos 0)

    term_most : nat_abs term ≤ product
    term_most = abs_*_le t.1 (get_or values t.0 (pos 0)) in_turn.coefficient (f.small t.0)

    pub column_there : t.0 < length values
    column_there = in_turn.column

    pub term_fits : SFits w64 term
    term_fits = sfits_abs term (omega (arith, term_most))

    sum_most : nat_abs (sum +ℤ term) ≤ nat_abs sum + product
    sum_most = abs_+_le sum term (omega arith) term_most

    pub sum_fits : SFits w64 (sum +ℤ term)
    sum_fits = sfits_abs (sum +ℤ term) (omega (arith, sum_most, s.room, f.few))

    pub one_more : Summing (sum +ℤ term) ts
    unfolding pair_sum
    one_more = record {
      low = t.0 + 1;
      rises = in_turn.rest;
      whole = +ℤ_assoc sum term (pair_sum values ts) ∙ s.whole;
      room = omega (arith, sum_most, s.room);
    }

-- what the machine holds of a product
pub product_is : (k z : ℤ) {x y : ℤ} → SFits w64 k → SFits w64 z → k ≡ x → z ≡ y → to_z w64 (of_z w64 k) *ℤ to_z w64 (of_z w64 z) ≡ x *ℤ y
product_is k z f g d e = ap₂ ◌*ℤ◌ (to_z-of_z f ∙ d) (to_z-of_z g ∙ e)
