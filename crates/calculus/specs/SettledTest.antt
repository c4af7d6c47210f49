-- Settled leaves as a test, which checking computes.
use Rattle.std.specs.Prelude.{ℕ, zero, suc, Bool, true, false, not, ◌&&◌, ◌||◌, List, [], ◌∷◌, length, leb, eqb, ℤ, nat_abs}
use Rattle.std.proofs.Math.Option.{Option, none, some}
use Rattle.lists.specs.Lists.{all, any, all_below}
use Rattle.calculus.specs.Alphabet.{character_count}
use Rattle.calculus.specs.LinearForms.{eqℤ, value_in}
use Rattle.calculus.specs.Facts.{Question, Fact, same, not_same, is_literal, arithmetic, Branch, holds, len, code}
use Rattle.calculus.specs.Chains.{var_node, lit_node}
use Rattle.calculus.specs.Classes.{labels, same_class, conflict}
use Rattle.calculus.specs.Steps.{Step, SProp, LIntro, LValid, CCollapse, CValid, CInj}
use Rattle.calculus.specs.Rules.{least_power, children}
use Rattle.calculus.specs.Model.{model_value}

-- a fact holds at the leaf: an arithmetic one by the model's values, an ≈ by classes
abbrev pub held : List ℕ → List ℤ → Fact → Bool
held ls m (same x y) = same_class ls (var_node x) (var_node y)
held ls m (not_same x y) = not (same_class ls (var_node x) (var_node y))
held ls m (is_literal x l) = same_class ls (var_node x) (lit_node l)
held ls m (arithmetic r e) = holds r (value_in m e)

-- some child holds, with all its facts
abbrev pub held_some : List ℕ → List ℤ → List (List Fact) → Bool
held_some ls m cs = any (all (held ls m)) cs

abbrev pub by_children : List ℕ → List ℤ → Option (List (List Fact)) → Bool
by_children ls m none = true
by_children ls m (some cs) = held_some ls m cs

abbrev pub settled_step : Question → Branch → List ℤ → Step → Bool
settled_step u b m st = by_children (labels b) m (children u b st)

-- the lowest variable from y on that is in one class with x, within fuel
abbrev pub lowest_from : ℕ → List ℕ → ℕ → ℕ → ℕ
lowest_from zero ls x y = x
lowest_from (suc d) ls x y = elim (same_class ls (var_node x) (var_node y)) [ true ↦ y | false ↦ lowest_from d ls x (suc y) ]

abbrev pub lowest_variable : List ℕ → ℕ → ℕ
lowest_variable ls x = lowest_from x ls x 0

-- the lowest variables of the classes, among the first k variables, whose length in the model is z
abbrev pub lowest_of_length : Question → List ℕ → List ℤ → ℤ → ℕ → List ℕ
lowest_of_length u ls m z zero = []
lowest_of_length u ls m z (suc k) =
    elim (eqℤ (model_value u m len k) z && eqb (lowest_variable ls k) k) [ true ↦ k ∷ lowest_of_length u ls m z k | false ↦ lowest_of_length u ls m z k ]

-- Card, by counting: the classes whose length is that of x are no more than the strings of that length
abbrev pub settled_card : Question → List ℕ → List ℤ → ℕ → Bool
settled_card u ls m x =
    let k = length (lowest_of_length u ls m (model_value u m len x) u.p) in
    leb k 1 || (not (leb (character_count u.n) 1) && leb (least_power k (character_count u.n) k 0) (nat_abs (model_value u m len x)))

-- S-Conf does not fit, and a child of each step of rules 6 to 12 holds
abbrev pub settled : Question → Branch → List ℤ → Bool
settled u b m = not (conflict u b) && all_below u.p (λ x.
    settled_step u b m (LIntro x) && settled_step u b m (LValid x) && settled_step u b m (CCollapse x) && settled_step u b m (CValid x)
    && settled_card u (labels b) m x
    && all_below u.p (λ y. settled_step u b m (SProp len x y) && settled_step u b m (SProp code x y) && settled_step u b m (CInj x y)))
