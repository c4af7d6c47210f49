-- What an action under claim 1 makes of the walk's state: the walk enters the step in the record at a position.
use Prim.Native.Nat.{ℕ, ◌≤◌, ◌<◌}
use native.Mathlib.Omega.{arith}
use mathlib.Core.Path.{◌≡◌, refl, sym, ◌∙◌, ap, subst}
use mathlib.Core.Option.{Option}
use mathlib.Core.List.{List, ◌∷◌, ◌++◌}
use lib.ListN.{length}
use lib.IntN.{ℤ}
use Rattle.calculus.specs.Limits.{ticket_bytes, fact_limit, pending_limit}
use Rattle.calculus.specs.Facts.{Fact, Branch}
use Rattle.calculus.specs.Walk.{Walk, closed, cut_back, enter}
use Rattle.format.specs.Checking.{or_none}
use Rattle.rows.specs.Rows.{branch_of}
use Rattle.delimiters.specs.declared.Claim.TheVariants.{NoSolution}
use Rattle.question.specs.declared.Progress.{Progress}
use Rattle.question.specs.Posed.{asked}
use Rattle.branch.specs.declared.Branch as code
use Rattle.branch.specs.Stack.{split, stack}
use Rattle.derivation.specs.State.{stepped_on, waitings, state_of}
use Rattle.derivation.specs.Ok.{Ok, InOrder}
use Rattle.derivation.specs.Actions.{Acts, Begins, Branches}
use Rattle.derivation.specs.declared.Action.{Action}
use Rattle.derivation.specs.declared.Action.TheVariants.{Closes, Extends, Splits}
use Rattle.derivation.proofs.Closing.{none_left}
use Rattle.derivation.proofs.Beginning.{begins_one, begins_more}

module _ {b : List ℕ} {s : Progress} {w : List ℤ} {c : code.Branch} (h : InOrder b s w c) (at : ℕ) (v : List ℤ) (a : Action)
    (acts : Acts NoSolution b (asked b s) at c.depth w c.count v a) where
  abbrev br : Branch
  br = branch_of w c.count

  abbrev pub entered : Walk Branch (List Fact)
  entered = stepped_on b (asked b s) br (waitings b (asked b s) br (stack c)) at

  -- ---- the branch is closed

  module _ (e : a ≡ Closes) where
    pub same_rows : branch_of v c.count ≡ br
    unfolding Acts
    same_rows = (subst (Acts NoSolution b (asked b s) at c.depth w c.count v) e acts).1

    cuts_back : cut_back ◌++◌ (waitings b (asked b s) br (stack c)) ≡ entered
    unfolding Acts
    cuts_back =
        ap (λ (o : Option (List (List Fact))). enter ◌++◌ br (or_none o) (waitings b (asked b s) br (stack c)))
        (sym (subst (Acts NoSolution b (asked b s) at c.depth w c.count v) e acts).0)

    pub holds_closed : length v ≡ length w → InOrder b s v c
    holds_closed n = record {
      posed = h.posed;
      room = omega (arith, n, h.room);
      ok = subst (λ (l : Branch). Ok b (asked b s) l (stack c)) (sym same_rows) h.ok;
    }

    -- the last one
    pub entered_closed : c.depth ≡ 0 → closed ≡ entered
    entered_closed d = none_left b s w c d ∙ cuts_back

    -- another begins
    pub entered_next : (x : Walk Branch (List Fact)) → x ≡ cut_back ◌++◌ (waitings b (asked b s) (branch_of v c.count) (stack c)) → x ≡ entered
    entered_next x q = q ∙ ap (λ (l : Branch). cut_back ◌++◌ (waitings b (asked b s) l (stack c))) same_rows ∙ cuts_back

  -- ---- the branch goes on

  module _ (k : ℕ) (e : a ≡ Extends k) where
    pub extended : Begins b (asked b s) br at 1 v k
    unfolding Acts
    extended = subst (Acts NoSolution b (asked b s) at c.depth w c.count v) e acts

    pub few_extended : k ≤ fact_limit
    few_extended = extended.fine.few

    pub entered_one : (r : code.Branch) → r.count ≡ k → stack r ≡ stack c → (state_of b (asked b s) v r ≡ entered) × InOrder b s v r
    entered_one r er es = begins_one h at 1 v k extended r er refl es

  -- ---- the branch splits

  module _ (k n : ℕ) (e : a ≡ Splits k n) where
    pub split_up : Begins b (asked b s) br at n v k × Branches b at n c.depth
    unfolding Acts
    split_up = subst (Acts NoSolution b (asked b s) at c.depth w c.count v) e acts

    pub few_split : k ≤ fact_limit
    few_split = split_up.0.fine.few

    pub can_mark : (c.depth < pending_limit) × (at ≤ ticket_bytes) × (n < 256)
    can_mark = (split_up.1.room, omega (arith, split_up.0.splits.formed.within, h.posed.short), split_up.1.few)

    pub entered_more : (r : code.Branch) → r.count ≡ k → stack r ≡ split c.count at 2 n ∷ stack c → (state_of b (asked b s) v r ≡ entered) × InOrder b s v r
    entered_more r er es = begins_more h at n v k split_up.0 r er split_up.1 es
