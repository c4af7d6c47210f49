use Prim.Native.Nat.{ℕ}
use borrow.Author.Tests.{not-false, not-true}
use lib.ListN.{length}
use mathlib.Core.Bool.{Bool, true, false}
use mathlib.Core.List.{List, map}
use mathlib.Core.Path.{◌≡◌, refl, sym, ◌∙◌, ap}
use Rattle.calculus.specs.Facts.{Fact}
use Rattle.calculus.specs.Steps.{shape}
use Rattle.format.specs.Checking.{or_none, children_within, room_for_all, room_to_pend}
use Rattle.format.specs.StepForms.{step_at}
use Rattle.rows.proofs.Branches.{length_branch}
use Rattle.steps.specs.Rules.{shape_of}
use Rattle.steps.proofs.Bodies.{before, given, form_fits, shape_by}
use Rattle.steps.proofs.Offered.{its_shape}
use Rattle.trials.specs.Rooms.{ChildrenBy}
use Rattle.trials.proofs.Tried.{split_nine, split_ten}
use Rattle.trials.proofs.all_fault.Goals as goal
use Rattle.trials.proofs.all_fault.Goals.{After-children_within, After-room_for_all, Else-not-children_within}
use Rattle.trials.proofs.all_fault.Goals.{Start, then-not-room_for_all-via-then-not-room_for_all}
use Rattle.trials.proofs.all_fault.Goals.{then-not-room_for_all-via-else-not-room_for_all+then-not-room_to_pend}

-- ---- what the tests show
small : (c : After-children_within) (t : Bool)
    → c.children_within.result ≡ t
    → children_within (or_none (given c.requires.ready_by.ready)) ≡ t
small c t e = sym c.children_within.ensures ∙ e

within : (c : Else-not-children_within) → children_within (or_none (given c.requires.ready_by.ready)) ≡ true
within c = small (goal.at.Else-not-children_within c).After-children_within true (not-false _ c.if-not-children_within.false-raw)

shaped : (s : Start)
    → map length (or_none (given s.requires.ready_by.ready)) ≡ shape s.args.s.n (step_at s.args.ticket.now s.args.step.body s.args.step.size)
shaped s = its_shape s.requires.ready_by.ready s.requires.count_value

offered-by-rule : (s : Start) → ChildrenBy s.args.step.rule (or_none (given s.requires.ready_by.ready))
offered-by-rule s =
    record {
      n = s.args.s.n;
      b = s.args.ticket.now;
      body = s.args.step.body;
      m = s.args.step.size;
      named = s.requires.ready_by.named;
      fits = s.requires.ready_by.ready.formed.fits;
      shaped = shaped s;
    }

roomy : (c : After-room_for_all) (t : Bool) →
    let pre = c.requires in
    c.room_for_all.result ≡ t → room_for_all (length (before pre.ready_by.ready)) (or_none (given pre.ready_by.ready)) ≡ t
roomy c t e =
    ap (λ (k : ℕ). room_for_all k (or_none (given c.requires.ready_by.ready))) (length_branch c.args.work.now c.args.count)
    ∙ sym (c.room_for_all.ensures (or_none (given c.requires.ready_by.ready)) (offered-by-rule (goal.at.After-room_for_all c).Start))
    ∙ e

pends : (s : Start) {r : Bool} (t : Bool)
    → ((b : List ℕ) (body : ℕ) (cs : List (List Fact)) → map length cs ≡ shape_of s.args.step.rule s.args.s.n b body s.args.step.size
    → r ≡ room_to_pend s.args.pending cs)
    → r ≡ t
    → room_to_pend s.args.pending (or_none (given s.requires.ready_by.ready)) ≡ t
pends s t h e =
    sym (h s.args.ticket.now s.args.step.body (or_none (given s.requires.ready_by.ready)) (shaped s ∙ sym (shape_by s.requires.ready_by s.args.s.n))) ∙ e

-- ---- the needs
pub children_within-requires : goal.children_within-requires
children_within-requires c = c.requires

pub returns-then-not-children_within : goal.returns-then-not-children_within
returns-then-not-children_within c =
    split_nine (before c.requires.ready_by.ready) c.args.pending (given c.requires.ready_by.ready) c.requires.count_value
    (small (goal.at.returns-then-not-children_within c).After-children_within false (not-true _ c.if-not-children_within.true-raw))

pub room_for_all-requires : goal.room_for_all-requires
room_for_all-requires c =
    (c.requires.ready_by.concludes, c.requires.ready_by.ready.fine.few)

pub returns-then-not-room_for_all : goal.returns-then-not-room_for_all
returns-then-not-room_for_all c =
    let start = (goal.at.returns-then-not-room_for_all c).Start in
    let roomy = roomy (goal.at.returns-then-not-room_for_all c).After-room_for_all in
    let refused = λ (t p : Bool). split_ten (before c.requires.ready_by.ready) c.args.pending (given c.requires.ready_by.ready) t p c.requires.count_value
    (within (goal.at.returns-then-not-room_for_all c).Else-not-children_within) in
    elim c.then-not-room_for_all.branch [
      | then-not-room_for_all-via-then-not-room_for_all w ↦ refused false _ (roomy false (not-true _ w.if-not-room_for_all.true-raw)) refl
      | then-not-room_for_all-via-else-not-room_for_all+then-not-room_to_pend w ↦
          refused true false (roomy true (not-false _ w.if-not-room_for_all.false-raw))
          (pends start false w.room_to_pend.ensures (not-true _ w.if-not-room_to_pend.true-raw))
    ]

pub room_to_pend-requires : goal.room_to_pend-requires
room_to_pend-requires c =
    let pre = c.requires in
    form_fits pre.ready_by

pub returns : goal.returns
returns c =
    split_ten (before c.requires.ready_by.ready) c.args.pending (given c.requires.ready_by.ready) true true c.requires.count_value
    (within (goal.at.returns c).Else-not-children_within)
    (roomy (goal.at.returns c).After-room_for_all true (not-false _ c.if-not-room_for_all.false-raw))
    (pends (goal.at.returns c).Start true c.room_to_pend.ensures (not-false _ c.if-not-room_to_pend.false-raw))
