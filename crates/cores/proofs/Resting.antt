-- What a step rests on, gathered in words one set after another.
use Prim.Native.Nat.{ℕ, suc, ◌+◌, ◌*◌, ◌-◌, ◌/◌, ◌≤◌, ◌<◌}
use native.Mathlib.Omega.{arith}
use mathlib.Core.Path.{◌≡◌, refl, sym, ◌∙◌, ap, ap₂}
use mathlib.Core.Bool.{true, false, ◌&&◌}
use mathlib.Core.List.{List, [], ◌∷◌}
use lib.ListN.{length, length-map, get_or-eq_default}
use lib.IntN.{ℤ}
use Rattle.lists.proofs.Tests.{and_both}
use Rattle.calculus.specs.Facts.{Question, Fact, Branch}
use Rattle.calculus.specs.Children.{pair_children}
use Rattle.calculus.specs.Rules.{distinct, neighbours, last_child, card_children}
use Rattle.calculus.specs.Steps.{Card}
use Rattle.calculus.specs.Cores.{Set, union, Rested, sets, set_at, lengths_set, neighbour_sets, rests_on}
use Rattle.format.specs.Fields.{u16, u16s}
use Rattle.format.specs.StepForms.{Rule, sum, card, rule, step_of, step_at}
use Rattle.format.specs.Checking.{fits}
use Rattle.format.proofs.Faults.{not_both}
use Rattle.question.specs.declared.Progress.{Progress}
use Rattle.question.specs.Posed.{asked, numbered}
use Rattle.rows.proofs.Tested.{guard_fits}
use Rattle.steps.specs.Ready.{Ready}
use Rattle.steps.proofs.Bodies.{before, given, long}
use Rattle.steps.proofs.Offered.{offered_by}
use Rattle.steps.proofs.Variables.{u16s_more, u16s_done, recount, card_operands}
use Rattle.cores.specs.declared.Words.{Words}
use Rattle.cores.specs.Words.{words_of, union_of}
use Rattle.cores.specs.Sets.{Carries}
use Rattle.cores.proofs.Laws.{union_nil, union_assoc, words_union}

-- ---- the set of a fact

pub set_beyond : (v : List Words) (count k : ℕ) (r : Rested) → Carries v count r → count ≤ k → set_at r k ≡ []
set_beyond v count k r c h =
    let few : length (sets r) ≤ k = omega (arith, length-map r (λ (f : Fact × Set). f.1), c.all) in
    get_or-eq_default (sets r) [] {n = k} few

-- ---- a union in a loop

-- the words are those of the set taken so far, which is the whole with what is left
pub record Gathers (w : Words) (left whole : Set) : Type 0 where
  pub taken : Set
  pub words : w ≡ words_of taken
  pub together : union taken left ≡ whole

pub gathers_all : (w : Words) (left whole : Set) → w ≡ words_of [] → left ≡ whole → Gathers w left whole
unfolding union
gathers_all w left whole e q =
    record {
      taken = [];
      words = e;
      together = q;
    }

pub gathers_more : (w one next : Words) (left s behind whole : Set)
    → left ≡ union s behind
    → one ≡ words_of s
    → next ≡ union_of w one
    → Gathers w left whole
    → Gathers next behind whole
gathers_more w one next left s behind whole p e q g =
    record {
      taken = union g.taken s;
      words = q ∙ ap₂ union_of g.words e ∙ sym (words_union g.taken s);
      together = union_assoc g.taken s behind ∙ ap (union g.taken) (sym p) ∙ g.together;
    }

pub gathers_done : (w : Words) (left whole : Set) → left ≡ [] → Gathers w left whole → w ≡ words_of whole
gathers_done w left whole e g = g.words ∙ ap words_of (sym (union_nil g.taken) ∙ ap (union g.taken) (sym e) ∙ g.together)

-- ---- Card's variables, two neighbours at a time

module _ (u : Question) (r : Rested) (b : List ℕ) (i others : ℕ) where
  pub neighbours_next : 0 < others
      → neighbour_sets u r (u16 b i) (u16s b (i + 2) others)
      ≡ union (lengths_set u r (u16 b i) (u16 b (i + 2))) (neighbour_sets u r (u16 b (i + 2)) (u16s b (i + 2 + 2) (others - 1)))
  unfolding neighbour_sets
  neighbours_next h = ap (neighbour_sets u r (u16 b i)) (u16s_more b (i + 2) others h)

  pub neighbours_done : others ≤ 0 → neighbour_sets u r (u16 b i) (u16s b (i + 2) others) ≡ []
  unfolding neighbour_sets
  neighbours_done h = ap (neighbour_sets u r (u16 b i)) (u16s_done b (i + 2) others h)

-- Card asks for the numbers of a question alone
neighbours_same : (b : List ℕ) (s : Progress) (r : Rested) (x : ℕ) (ys : List ℕ) → neighbour_sets (numbered s) r x ys ≡ neighbour_sets (asked b s) r x ys
unfolding neighbour_sets asked
neighbours_same b s r x [] = refl
neighbours_same b s r x (y ∷ ys) = ap (union (lengths_set (numbered s) r x y)) (neighbours_same b s r y ys)

-- where Card fits, its variables are different
card_distinct : (u : Question) (br : Branch) (xs : List ℕ) → fits (card_children u br xs) ≡ true → distinct xs ≡ true
card_distinct u br [] e = absurd (not_both false e refl)
card_distinct u br (x ∷ []) e = refl
card_distinct u br (x ∷ y ∷ xs) e =
    (and_both (distinct (x ∷ y ∷ xs)) (neighbours u br x (y ∷ xs))
    (sym (guard_fits (distinct (x ∷ y ∷ xs) && neighbours u br x (y ∷ xs)) (pair_children (x ∷ y ∷ xs) (last_child u x (length (x ∷ y ∷ xs))))) ∙ e)
    ).0

-- ---- a step by its rule

module _ (b : List ℕ) (u : Question) (r : Rested) (body m : ℕ) where
  pub rests_by : (q : Rule) → q ≡ rule b body → rests_on u r (step_of b q body m) ≡ rests_on u r (step_at b body m)
  rests_by q e = ap (λ p. rests_on u r (step_of b p body m)) e

module _ {b : List ℕ} {s : Progress} {body m : ℕ} {w : List ℤ} {count : ℕ} (h : Ready b s body m w count) where
  -- Sum: the pairs
  pub sum_operands : sum ≡ rule b body → (8 ≤ m) × (body + 8 + 6 * ((m - 8) / 6) ≤ length b)
  sum_operands e =
      let l : 14 ≤ m = long h sum e in
      let whole = h.formed.within in
      (omega arith, omega arith)

  -- "2 to 16 different variables"
  pub card_differ : card ≡ rule b body → fits (given h) ≡ true → distinct (u16s b (body + 4) ((m - 4) / 2 - 1 + 1)) ≡ true
  unfolding step_of
  card_differ e f =
      let two = (card_operands h e).0 in
      ap (λ n. distinct (u16s b (body + 4) n)) (recount ((m - 4) / 2) (omega arith))
      ∙ card_distinct (asked b s) (before h) (u16s b (body + 4) ((m - 4) / 2))
      (sym (ap fits (offered_by b (asked b s) (before h) body m card e)) ∙ f)

  pub card_rests : card ≡ rule b body → (r : Rested) (x : Words)
      → x ≡ words_of (neighbour_sets (numbered s) r (u16 b (body + 4)) (u16s b (body + 4 + 2) ((m - 4) / 2 - 1)))
      → x ≡ words_of (rests_on (asked b s) r (step_at b body m))
  unfolding rests_on step_of u16s
  card_rests e r x f =
      let two = (card_operands h e).0 in
      let q : suc ((m - 4) / 2 - 1) ≡ (m - 4) / 2 = omega arith in
      f
      ∙ ap words_of
      (neighbours_same b s r (u16 b (body + 4)) (u16s b (body + 4 + 2) ((m - 4) / 2 - 1))
      ∙ ap (λ n. rests_on (asked b s) r (Card (u16s b (body + 4) n))) q
      ∙ rests_by b (asked b s) r body m card e)
