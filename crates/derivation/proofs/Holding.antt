-- What a state in order gives to the code that works on it.
use Prim.Native.Nat.{ℕ, ◌+◌, ◌≤◌}
use native.Mathlib.Omega.{arith}
use mathlib.Core.Path.{◌≡◌, sym, ◌∙◌, ap, subst}
use mathlib.Core.List.{List}
use lib.ListN.{length}
use lib.IntN.{ℤ}
use Rattle.calculus.specs.Limits.{fact_limit, pending_limit}
use Rattle.format.specs.Records.{size}
use Rattle.format.specs.StepForms.{rule}
use Rattle.rows.specs.Rows.{branch_of}
use Rattle.rows.specs.Work.{Fine}
use Rattle.rows.proofs.Branches.{length_branch}
use Rattle.question.specs.declared.Progress.{Progress}
use Rattle.question.specs.Posed.{asked, Posed}
use Rattle.steps.specs.Conclusions.{conclusions_of}
use Rattle.steps.specs.declared.Conclusions.TheVariants.{Several}
use Rattle.steps.specs.Offered.{child_fault}
use Rattle.steps.specs.declared.Rule.{Rule}
use Rattle.steps.specs.Rules.{rule_named}
use Rattle.steps.specs.Ready.{Ready, ReadyBy}
use Rattle.branch.specs.declared.Branch as code
use Rattle.branch.specs.Stack.{stack}
use Rattle.branch.proofs.Stacks.{length_stack}
use Rattle.derivation.specs.State.{waitings}
use Rattle.derivation.specs.Ok.{Splits, InOrder}
use Rattle.derivation.proofs.Children.{none_of_these}
use Rattle.derivation.proofs.Pending.{length_waitings}

module _ {b : List ℕ} {s : Progress} {w : List ℤ} {c : code.Branch} (h : InOrder b s w c) where
  pub few_facts : c.count ≤ fact_limit
  few_facts = omega (arith, h.ok.few, length_branch w c.count)

  pub fine : Fine w c.count
  fine = record {
    few = few_facts;
    room = h.room;
    small = h.ok.small;
  }

  pub few_splits : c.depth ≤ pending_limit
  few_splits = omega (arith, h.ok.few_pending, length_stack c)

  -- as many splits wait as the depth says
  pub waiting : length (waitings b (asked b s) (branch_of w c.count) (stack c)) ≡ c.depth
  waiting = length_waitings b (asked b s) (branch_of w c.count) (stack c) ∙ length_stack c

-- what is asked for where child k of the step in a body of m bytes is put after count facts
abbrev pub Puts : Rule → List ℕ → Progress → ℕ → ℕ → List ℤ → ℕ → ℕ → Type 0
Puts r b s body m w count k = ReadyBy r Several b s body m w count × (child_fault b s body m w count k ≡ 0)

pub puts : (r : Rule) (b : List ℕ) (s : Progress) (w : List ℤ) (at n k m count : ℕ) → Posed b s → Splits b (asked b s) (branch_of w count) at n
    → rule_named r ≡ rule b (at + 6) → conclusions_of (rule b (at + 6)) ≡ Several → Fine w count → 1 ≤ k → k ≤ n → m ≡ size b at → Puts r b s (at + 6) m w count k
puts r b s w at n k m count p sp e c f l h em =
    let ready : Ready b s (at + 6) (size b at) w count = record { posed = p; formed = sp.formed; fine = f } in
    subst (λ (i : ℕ). Puts r b s (at + 6) i w count k) (sym em)
    (record { ready = ready; named = e; concludes = ap conclusions_of e ∙ c }, none_of_these sp k l h)
