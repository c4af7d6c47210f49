use Prim.Native.Nat.{ℕ, ◌+◌, ◌≤◌, ◌<◌}
use borrow.Author.Rules.{rules}
use mir.Syntax.{w64}
use mir.Val.{Fits}
use lib.IntN.{ℤ}
use lib.ListN.{length}
use mathlib.Core.Path.{◌≡◌, refl, sym, ◌∙◌, ap, subst}
use mathlib.Core.List.{List}
use native.Mathlib.Omega.{arith}
use Rattle.calculus.specs.Cores.{core_in}
use Rattle.calculus.specs.Limits.{ticket_bytes, fact_limit}
use Rattle.calculus.specs.Classes.{labels}
use Rattle.rows.specs.Rows.{branch_of}
use Rattle.rows.proofs.Branches.{length_branch}
use Rattle.classes.specs.declared.Known.{Known}
use Rattle.classes.specs.Classes.{Knows}
use Rattle.classes.proofs.Laws.{knows_back}
use Rattle.conclusions.proofs.Labels.{known_for}
use Rattle.steps.specs.declared.Rule.{Rule}
use Rattle.branch.specs.declared.Split.{Split}
use Rattle.branch.specs.declared.Branch as code
use Rattle.branch.specs.Stack.{stack, latest_of}
use Rattle.derivation.specs.declared.Action.TheVariants.{Closes}
use Rattle.std.specs.Prelude.{Ok}
use Rattle.std.proofs.lemmas.Result.{err_from_is_err_and, IfOk-at_ok}
use Rattle.faults.specs.Numbers.{fault_in}
use Rattle.claims.proofs.Located.{value_before, error_before}
use Rattle.derivation.specs.Ok.{InOrder}
use Rattle.derivation.specs.Actions.{ReadyUnder}
use Rattle.derivation.proofs.Holding.{few_facts, few_splits}
use Rattle.derivation.proofs.Closing.{open_depth}
use Rattle.cores.specs.declared.Words.{Words}
use Rattle.cores.specs.Sets.{Roomy}
use Rattle.question.specs.Posed.{asked}
use Rattle.delimiters.specs.declared.Claim.TheVariants.{NoSolution}
use Rattle.claims.specs.Outcomes.{first_upto, walk_from, LeafAt, steps_from, CoreAt}
use Rattle.claims.specs.declared.Grounds.{Grounds}
use Rattle.claims.specs.declared.Next.TheVariants.{Model}
use Rattle.claims.specs.Steps.{StepAt, NextAt, grounds_back, Added}
use Rattle.claims.proofs.Walking.{first_few, fine_rows, pending_on, Going, starts, going_same, going_stopped, going_model, leaf_here, going_refused}
use Rattle.claims.proofs.Walking.{Stepped, as_pending, going_closed, still_open, going_next, few_extended, going_one, can_mark, going_more, known_below}
use Rattle.claims.proofs.Walking as laws
use Rattle.claims.proofs.Keeping.{upto_grown}
use Rattle.claims.proofs.Gathering.{Gathering, gathering_first, gathering_for, Rests, gathering_all, no_split, fact_at_mark}
use Rattle.claims.proofs.Gathering.{gathering_same, added_one, gathering_one, added_several, gathering_several, added_next_child, gathering_next}
use Rattle.rows.proofs.Small.{fine_first}
use Rattle.cores.proofs.Standing.{filled_as}
use Rattle.claims.proofs.walk.Goals as goal
use Rattle.claims.proofs.walk.Goals.{After-classes_for-known, After-first_known-first, At-loop-found, In_default, In_ok-taken}
use Rattle.claims.proofs.walk.Goals.{In-Step, Joined-taken, in-Closes+else-depth-eq0, in-Extends, in-Splits}

-- ---- places
abbrev Loop : Type 0
Loop = At-loop-found

abbrev bytes : Loop → List ℕ
bytes l = l.args.ticket.now

-- ---- the start
pub first_known-first-requires : goal.first_known-first-requires
first_known-first-requires c = c.requires.0.1

pub first-grounds-requires : goal.first-grounds-requires
first-grounds-requires c = let pre = c.requires in (pre.0.1, pre.2)

pub new-b-requires : goal.new-b-requires
new-b-requires c = c.requires.0.1.few

-- what is known at first
known-first : (c : After-first_known-first) →
    let a = c.args in
    Knows a.work.now a.s.constraints c.first_known-first.result
known-first c =
    let a = c.args in
    let few : first_upto a.claim a.s.constraints ≤ a.s.constraints = first_few a.claim a.s.constraints in
    record {
      few = omega (arith, c.first_known-first.ensures.upto_value);
      labelled = c.first_known-first.ensures.labels_value ∙ ap (λ (n : ℕ). labels (branch_of a.work.now n)) (sym c.first_known-first.ensures.upto_value);
    }

pub loop-found-init : goal.loop-found-init
loop-found-init c =
    let b = c.args.ticket.now in
    let root = c.requires.0.2 in
    let new = c.new-b in (
      starts b c.args.s c.args.work.now new.result c.requires.0.0 c.requires.0.1 root new.ensures.0 new.ensures.1
          c.args.claim c.args.r c.args.«record» c.first_known-first.result c.requires.1 (known-first (goal.at.loop-found-init c).After-first_known-first),
      gathering_first b c.args.s c.args.claim c.args.work.now _ new.result c.first_known-first.result c.first-grounds.result
          c.args.«record» new.ensures.0 new.ensures.1 root c.first_known-first.ensures.upto_value c.first-grounds.ensures,
      refl,
    )

pub next_record-requires : goal.next_record-requires
next_record-requires c = c.requires.0.0

-- the slice of the sets is as long as it was lent
same-sets : (l : Loop) → length l.loop-found.sets ≡ length l.args.sets.now
same-sets l = l.loop-found.invariant.2 ∙ l.first-grounds.auto.sets

roomy : (l : Loop) → Roomy l.loop-found.sets
roomy l = omega (arith, same-sets l, l.requires.2)

pub returns-in_err-found-clause-walked : goal.returns-in_err-found-clause-walked
returns-in_err-found-clause-walked c =
    let a = c.args in
    let o = c.loop-found in
    let p = err_from_is_err_and c.from_residual.result c.from_residual.ensures.1 in
    let (f, q, h) = error_before _ c.next_record.result c.map_err.ensures.cases c.in_err-found.was in
    let at : (c.in_err-found.field-0.0.fault ≡ f) × (c.in_err-found.field-0.0.«record» ≡ o.k) = search rules in
    let next = subst (NextAt a.claim a.ticket.now a.s o.i) q c.next_record.ensures in
    rw (p.1, p.2) (going_stopped a.ticket.now a.s o.invariant.0 o.work f _ next at)

-- the model stands there
model-there : (c : In_default) → NextAt c.args.claim c.args.ticket.now c.args.s c.loop-found.i (Ok Model)
model-there c =
    let a = c.args in
    let found = value_before _ c.next_record.result c.map_err.ensures.cases c.in_ok-found.was in
    subst (NextAt a.claim a.ticket.now a.s c.loop-found.i) (found ∙ ap Ok c.in_default.is) c.next_record.ensures

pub returns-in_default-clause-walked : goal.returns-in_default-clause-walked
unfolding NextAt
returns-in_default-clause-walked c =
    let a = c.args in
    let o = c.loop-found in
    going_model a.ticket.now a.s a.claim _ _ o.work o.b o.known o.i o.k _ o.invariant.0 (model-there (goal.at.returns-in_default-clause-walked c).In_default).0

pub returns-in_default-clause-leaf : goal.returns-in_default-clause-leaf
unfolding NextAt
returns-in_default-clause-leaf c =
    let a = c.args in
    let o = c.loop-found in
    let here = model-there (goal.at.returns-in_default-clause-leaf c).In_default in
    leaf_here a.ticket.now a.s a.claim _ _ o.work o.b o.known o.i o.k _ o.invariant.0 here.0 refl here.1

pub returns-in_default-clause-core : goal.returns-in_default-clause-core
unfolding CoreAt
returns-in_default-clause-core c = tt

-- ---- a step of proper form
abbrev Ruled : Type 0
Ruled = In-Step

abbrev rule_of : Ruled → Rule
rule_of c = c.in-Step.rule

abbrev body_of : Ruled → ℕ
body_of c = c.in-Step.size

found_there : (c : Ruled) → c.next_record.result ≡ Ok c.in_ok-found.found
found_there c = value_before _ c.next_record.result c.map_err.ensures.cases c.in_ok-found.was

step-here : (c : Ruled) →
    let a = c.args in
    StepAt a.claim a.ticket.now a.s c.loop-found.i (rule_of c) (body_of c)
unfolding NextAt
step-here c =
    let a = c.args in
    subst (NextAt a.claim a.ticket.now a.s c.loop-found.i) (found_there c ∙ ap Ok c.in-Step.is) c.next_record.ensures

-- the record ends within the longest ticket
ends_within : (c : Ruled) → c.loop-found.i + 6 + body_of c ≤ ticket_bytes
ends_within c = omega (arith, (step-here c).sized, (step-here c).whole, c.requires.0.0.short)

fits : (n : ℕ) → n ≤ ticket_bytes → Fits w64 n
fits n h = omega arith

ready : (c : Ruled) →
    let a = c.args in
    let o = c.loop-found in
    ReadyUnder a.claim (rule_of c) a.ticket.now a.s o.i (body_of c) o.work o.b.count
ready c =
    let a = c.args in
    let step = step-here c in
    record {
      ready = record {
        posed = c.requires.0.0;
        formed = step.formed;
        fine = fine_rows a.claim (bytes (goal.at.In-Step c).At-loop-found) a.s c.loop-found.work c.loop-found.b c.loop-found.invariant.0.holds;
      };
      named = step.named;
      sized = step.sized;
      field = step.field;
    }

pub overflow_add-next : goal.overflow_add-next
overflow_add-next c = fits (c.loop-found.i + 6) (omega (arith, ends_within (goal.at.overflow_add-next c).In-Step))

pub overflow_add-next-in-loop-found : goal.overflow_add-next-in-loop-found
overflow_add-next-in-loop-found c =
    fits (c.loop-found.i + 6 + body_of (goal.at.overflow_add-next-in-loop-found c).In-Step) (ends_within (goal.at.overflow_add-next-in-loop-found c).In-Step)

pub classes_for-known-requires : goal.classes_for-known-requires
classes_for-known-requires c =
    (c.loop-found.invariant.0.knows, (ready (goal.at.classes_for-known-requires c).In-Step).ready.fine)

-- labels cover as many facts as before, or all
grown : (c : After-classes_for-known) →
    let o = c.loop-found in
    (o.known.upto ≤ c.classes_for-known.result.upto) × (c.classes_for-known.result.upto ≤ o.b.count)
grown c = upto_grown c.loop-found.invariant.0.knows c.classes_for-known.ensures

pub brought_up-grounds-requires : goal.brought_up-grounds-requires
brought_up-grounds-requires c = (
  (grown (goal.at.brought_up-grounds-requires c).After-classes_for-known).0,
  fine_first c.classes_for-known.result.upto (grown (goal.at.brought_up-grounds-requires c).After-classes_for-known).1
      (ready (goal.at.brought_up-grounds-requires c).In-Step).ready.fine,
  roomy (goal.at.brought_up-grounds-requires c).At-loop-found,
)

pub set_of-set-requires : goal.set_of-set-requires
set_of-set-requires c = (ready (goal.at.set_of-set-requires c).In-Step, roomy (goal.at.set_of-set-requires c).At-loop-found)

pub take_step-step-requires : goal.take_step-step-requires
take_step-step-requires c =
    (ready (goal.at.take_step-step-requires c).In-Step, (known_for c.loop-found.invariant.0.knows c.classes_for-known.ensures).1)

-- ---- the step is taken
abbrev Taken : Type 0
Taken = In_ok-taken

abbrev labelsOf : Taken → Known
labelsOf t = t.classes_for-known.result

abbrev broughtOf : Taken → Grounds
broughtOf t = t.brought_up-grounds.result

abbrev setOf : Taken → Words
setOf t = t.set_of-set.result

-- the work area after it
abbrev workOf : Taken → List ℤ
workOf t = t.take_step-step.new.work

same-work : (t : Taken) → length (workOf t) ≡ length t.loop-found.work
same-work t = t.take_step-step.auto.work

-- what the step comes to
result_of : (t : Taken) → t.take_step-step.result ≡ Ok t.in_ok-taken.taken
result_of t = value_before _ t.take_step-step.result t.map_err-in-loop-found.ensures.cases t.in_ok-taken.was

-- where the loop stands, with what is kept for the rule
going : (t : Taken) →
    let a = t.args in
    let o = t.loop-found in
    Going a.ticket.now a.s a.claim (length a.work.now)
    (walk_from a.claim a.ticket.now a.s a.r a.«record») o.work o.b (labelsOf t) o.i o.k
going t =
    let g = t.loop-found.invariant.0 in
    record {
      kept = g.kept;
      low = g.low;
      holds = g.holds;
      knows = (known_for g.knows t.classes_for-known.ensures).0;
      rest = g.rest;
    }

gathering : (t : Taken) →
    let a = t.args in
    let o = t.loop-found in
    Gathering a.ticket.now a.s a.claim (core_in (asked a.ticket.now a.s) (steps_from a.ticket.now a.«record»))
    o.work o.sets o.b (labelsOf t) (broughtOf t) o.i
gathering t =
    let a = t.args in
    gathering_for a.ticket.now a.s a.claim (labelsOf t) (broughtOf t) t.loop-found.invariant.1 (grown (goal.at.In_ok-taken t).After-classes_for-known)
    t.brought_up-grounds.ensures

stepped : (t : Taken) →
    let a = t.args in
    let o = t.loop-found in
    Stepped a.ticket.now a.s a.claim o.work o.b o.i (body_of (goal.at.In_ok-taken t).In-Step) (workOf t) t.in_ok-taken.taken
stepped t =
    let b = bytes (goal.at.In_ok-taken t).At-loop-found in
    let a = t.args in
    let o = t.loop-found in
    let step = step-here (goal.at.In_ok-taken t).In-Step in
    record {
      sized = step.sized;
      whole = step.whole;
      step = step.step;
      number = sym (ap fault_in (result_of t)) ∙ t.take_step-step.ensures.number
          ∙ as_pending b a.s a.claim o.work o.b o.i o.invariant.0.holds
          ∙ step.tried o.work o.b.count (pending_on b a.s o.work o.b);
      acts = IfOk-at_ok _ (result_of t) t.take_step-step.ensures.acts;
    }

resting : (t : Taken) →
    let a = t.args in
    let o = t.loop-found in
    Rests a.ticket.now a.s a.claim (rule_of (goal.at.In_ok-taken t).In-Step) o.work o.sets o.b (labelsOf t) (broughtOf t) o.i
    (body_of (goal.at.In_ok-taken t).In-Step) (setOf t)
resting t = record { brought = λ asks. (t.classes_for-known.ensures.brought asks).0; rests = t.set_of-set.ensures }

pub returns-in_err-taken-clause-walked : goal.returns-in_err-taken-clause-walked
returns-in_err-taken-clause-walked c =
    let a = c.args in
    let b = a.ticket.now in
    let o = c.loop-found in
    let step = step-here (goal.at.returns-in_err-taken-clause-walked c).In-Step in
    let p = err_from_is_err_and c.from_residual-in_err-taken.result c.from_residual-in_err-taken.ensures.1 in
    let (f, q, h) = error_before _ c.take_step-step.result c.map_err-in-loop-found.ensures.cases c.in_err-taken.was in
    let at : (c.in_err-taken.field-0.0.fault ≡ f) × (c.in_err-taken.field-0.0.«record» ≡ o.k) = search rules in
    let number =
    sym (ap fault_in q) ∙ c.take_step-step.ensures.number ∙ as_pending b a.s a.claim o.work o.b o.i o.invariant.0.holds
    ∙ step.tried o.work o.b.count (pending_on b a.s o.work o.b) in
    rw (p.1, p.2) (going_refused b a.s o.invariant.0 c.take_step-step.new.work step.whole f _ number at)

pub overflow_add-result : goal.overflow_add-result
overflow_add-result c =
    fits (c.loop-found.k + 1) (omega (arith, c.loop-found.invariant.0.low, ends_within (goal.at.overflow_add-result c).In-Step))

pub shape_of-work-then-depth-eq0 : goal.shape_of-work-then-depth-eq0
shape_of-work-then-depth-eq0 c = same-work (goal.at.shape_of-work-then-depth-eq0 c).In_ok-taken ∙ c.loop-found.invariant.0.kept

pub shape_of-sets-then-depth-eq0 : goal.shape_of-sets-then-depth-eq0
shape_of-sets-then-depth-eq0 c = same-sets (goal.at.shape_of-sets-then-depth-eq0 c).At-loop-found

pub returns-then-depth-eq0 : goal.returns-then-depth-eq0
unfolding LeafAt CoreAt
returns-then-depth-eq0 c =
    let here = (goal.at.returns-then-depth-eq0 c).In_ok-taken in
    let a = c.args in
    let b = a.ticket.now in
    let q = c.in-Closes.is in
    let all =
    ap (λ (x : Grounds). x.core) c.with_closing-grounds.ensures
    ∙ gathering_all b a.s a.claim (gathering here)
    (stepped here) (resting here) q
    (no_split c.loop-found.b c.if-depth-eq0.true) in
    record {
      walked =
          going_closed b a.s a.claim (going here) (stepped here) q
          c.if-depth-eq0.true _ _;
      leaf = tt;
      core = all;
    }

-- the state to cut back from
opened : (t : Taken) → t.in_ok-taken.taken ≡ Closes →
    let a = t.args in
    let o = t.loop-found in
    InOrder a.ticket.now a.s (workOf t) o.b × Knows (workOf t) o.b.count (labelsOf t)
opened t q =
    let a = t.args in
    still_open a.ticket.now a.s a.claim (going t) (stepped t) q (same-work t)

-- what is known of the question's constraints holds at the mark of its last pending split
first_there : (t : Taken) → t.in_ok-taken.taken ≡ Closes → 0 < t.loop-found.b.depth →
    Knows (workOf t) (latest_of (stack t.loop-found.b)).mark t.first_known-first.result
first_there t q d =
    let a = t.args in
    laws.first_known a.ticket.now a.s a.work.now (workOf t) t.loop-found.b t.first_known-first.result t.requires.0.2
    (known-first (goal.at.In_ok-taken t).After-first_known-first)
    (opened t q).0 d

pub latest-split-requires : goal.latest-split-requires
latest-split-requires c =
    (open_depth c.loop-found.b c.if-depth-eq0.false, few_splits (opened (goal.at.latest-split-requires c).In_ok-taken c.in-Closes.is).0)

pub set_at-set-requires : goal.set_at-set-requires
set_at-set-requires c =
    let here = (goal.at.set_at-set-requires c).In_ok-taken in
    let q = c.in-Closes.is in
    let deep = open_depth c.loop-found.b c.if-depth-eq0.false in
    let a = c.args in
    let latest = c.latest-split in
    let below =
    fact_at_mark a.ticket.now a.s a.claim (gathering here)
    (going here) (stepped here) q deep latest.result latest.ensures in
    (omega (arith, few_facts (opened here q).0, below), roomy (goal.at.set_at-set-requires c).At-loop-found)

pub next_child-b-requires : goal.next_child-b-requires
next_child-b-requires c =
    let latest = c.latest-split in
    ((opened (goal.at.next_child-b-requires c).In_ok-taken c.in-Closes.is).0, open_depth c.loop-found.b c.if-depth-eq0.false, latest.ensures)

pub extend-b-requires : goal.extend-b-requires
extend-b-requires c =
    let a = c.args in
    few_extended a.ticket.now a.s a.claim _ (going (goal.at.extend-b-requires c).In_ok-taken) (stepped (goal.at.extend-b-requires c).In_ok-taken)
    c.in-Extends.is

pub mark-requires : goal.mark-requires
mark-requires c =
    let a = c.args in
    (can_mark a.ticket.now a.s a.claim _ _ (going (goal.at.mark-requires c).In_ok-taken) (stepped (goal.at.mark-requires c).In_ok-taken)
    c.in-Splits.is).0

pub extend-b-requires-in-Splits : goal.extend-b-requires-in-Splits
extend-b-requires-in-Splits c =
    let a = c.args in
    (can_mark a.ticket.now a.s a.claim _ _ (going (goal.at.extend-b-requires-in-Splits c).In_ok-taken)
    (stepped (goal.at.extend-b-requires-in-Splits c).In_ok-taken) c.in-Splits.is).1

few-there : (c : Joined-taken) → c.match-taken.b.count ≤ fact_limit
few-there c =
    let a = c.args in
    let b = a.ticket.now in
    elim c.match-taken.branch [
      | in-Closes+else-depth-eq0 w ↦ subst (λ (x : code.Branch). x.count ≤ fact_limit) (sym w.b-is) (few_facts w.next_child-b.ensures.holds)
      | in-Extends w ↦ subst (λ (x : code.Branch). x.count ≤ fact_limit) (sym w.b-is)
          (omega (
            arith,
            few_extended b a.s a.claim _ (going (goal.at.Joined-taken c).In_ok-taken) (stepped (goal.at.Joined-taken c).In_ok-taken)
                w.in-Extends.is,
            w.extend-b.ensures.0,
          ))
      | in-Splits w ↦ subst (λ (x : code.Branch). x.count ≤ fact_limit) (sym w.b-is)
          (omega (
            arith,
            (can_mark b a.s a.claim _ _ (going (goal.at.Joined-taken c).In_ok-taken) (stepped (goal.at.Joined-taken c).In_ok-taken)
                w.in-Splits.is).1,
            w.extend-b-in-Splits.ensures.0,
          ))
    ]

added-there : (c : Joined-taken)
    → c.args.claim ≡ NoSolution
    → Added c.match-taken.count c.match-taken.b.count
added-there c e =
    let a = c.args in
    let b = a.ticket.now in
    let o = c.loop-found in
    elim c.match-taken.branch [
      | in-Closes+else-depth-eq0 w ↦ rw (w.count-is, w.b-is)
          (added_next_child b a.s w.in-Closes.is (open_depth o.b w.if-depth-eq0.false) w.latest-split.result w.latest-split.ensures _ w.next_child-b.result
          w.next_child-b.ensures.state a.claim
          (gathering (goal.at.Joined-taken c).In_ok-taken) (going (goal.at.Joined-taken c).In_ok-taken)
          (stepped (goal.at.Joined-taken c).In_ok-taken) e)
      | in-Extends w ↦ rw (w.count-is, w.b-is)
          (added_one b a.s _ w.in-Extends.is w.extend-b.result w.extend-b.ensures.0 w.extend-b.ensures.1 a.claim
          (gathering (goal.at.Joined-taken c).In_ok-taken) (going (goal.at.Joined-taken c).In_ok-taken)
          (stepped (goal.at.Joined-taken c).In_ok-taken) e)
      | in-Splits w ↦ rw (w.count-is, w.b-is)
          (added_several b a.s _ _ w.in-Splits.is w.extend-b-in-Splits.result w.extend-b-in-Splits.ensures.0
          (w.extend-b-in-Splits.ensures.1 ∙ w.mark.ensures.1) a.claim (gathering (goal.at.Joined-taken c).In_ok-taken)
          (going (goal.at.Joined-taken c).In_ok-taken)
          (stepped (goal.at.Joined-taken c).In_ok-taken) e)
    ]

pub keep_set-requires : goal.keep_set-requires
keep_set-requires c = (
  added-there (goal.at.keep_set-requires c).Joined-taken,
  few-there (goal.at.keep_set-requires c).Joined-taken,
  roomy (goal.at.keep_set-requires c).At-loop-found,
)

-- ---- the next record
pub overflow_add-k : goal.overflow_add-k
overflow_add-k c =
    fits (c.loop-found.k + 1) (omega (arith, c.loop-found.invariant.0.low, ends_within (goal.at.overflow_add-k c).In-Step))

pub loop-found-smaller : goal.loop-found-smaller
loop-found-smaller c =
    omega (arith, (step-here (goal.at.loop-found-smaller c).In-Step).sized, (step-here (goal.at.loop-found-smaller c).In-Step).whole)

-- the question's constraints are in the first rows
all-roots : (l : Loop) →
    let a = l.args in
    a.s.constraints ≡ length (asked a.ticket.now a.s).constraints
all-roots l =
    sym (length_branch l.args.work.now l.args.s.constraints) ∙ ap length l.requires.0.2

pub loop-found-preserved : goal.loop-found-preserved
loop-found-preserved c =
    let here = (goal.at.loop-found-preserved c).In_ok-taken in
    let a = c.args in
    let b = bytes (goal.at.loop-found-preserved c).At-loop-found in
    let o = c.loop-found in
    let n = all-roots (goal.at.loop-found-preserved c).At-loop-found in
    let filled = c.keep_set.ensures in
    let same = c.keep_set.auto.sets ∙ o.invariant.2 in
    elim c.match-taken.branch [
      | in-Closes+else-depth-eq0 w ↦
          let q = w.in-Closes.is in
          let deep = open_depth o.b w.if-depth-eq0.false in
          let split = w.latest-split in
          let mark = split.result.mark in
          let known =
          subst (λ (x : Known). Knows (workOf here) mark x) (sym w.set_back-known.ensures)
          (knows_back (workOf here) o.b.count mark (labelsOf here)
          c.first_known-first.result (opened here q).1
          (subst (λ (x : Split). Knows (workOf here) x.mark c.first_known-first.result) (sym split.ensures)
          (first_there here q deep))) in (
            going_same b a.s w.work-is w.b-is w.known-is
                (going_next b a.s a.claim (going here) (stepped here)
                q _ w.next_child-b.result w.set_back-known.result w.next_child-b.ensures.state w.next_child-b.ensures.holds
                (known_below b a.s (workOf here) _ mark w.next_child-b.result w.set_back-known.result
                w.next_child-b.ensures.below known)
                (w.next_child-b.auto.work ∙ same-work here)),
            gathering_same b a.s w.work-is refl w.b-is (w.known-is ∙ w.set_back-known.ensures)
                (w.grounds-is
                ∙ w.set_back-grounds.ensures
                ∙ ap (λ (x : Grounds). grounds_back x (labelsOf here).upto mark) w.with_closing-grounds.ensures)
                (gathering_next b a.s q deep split.result split.ensures _ w.next_child-b.result w.next_child-b.ensures.state a.claim
                (gathering here) (going here)
                (stepped here)
                (resting here) n _
                (λ e. filled_as w.count-is (ap (λ (x : code.Branch). x.count) w.b-is) (w.set-is ∙ w.set_at-set.ensures) (filled e))
                c.first_known-first.result c.first_known-first.ensures.upto_value),
            same,
          )
      | in-Extends w ↦ (
        going_same b a.s w.work-is w.b-is w.known-is
            (going_one b a.s a.claim _ (going here) (stepped here)
            w.in-Extends.is w.extend-b.result w.extend-b.ensures.0 w.extend-b.ensures.1 (same-work here)),
        gathering_same b a.s w.work-is refl w.b-is w.known-is w.grounds-is
            (gathering_one b a.s _ w.in-Extends.is w.extend-b.result w.extend-b.ensures.0 w.extend-b.ensures.1 a.claim
            (gathering here) (going here)
            (stepped here)
            (resting here) n _
            (λ e. filled_as w.count-is (ap (λ (x : code.Branch). x.count) w.b-is) w.set-is (filled e))),
        same,
      )
      | in-Splits w ↦ (
        going_same b a.s w.work-is w.b-is w.known-is
            (going_more b a.s a.claim _ _ (going here) (stepped here)
            w.in-Splits.is w.extend-b-in-Splits.result w.extend-b-in-Splits.ensures.0 (w.extend-b-in-Splits.ensures.1 ∙ w.mark.ensures.1)
            (same-work here)),
        gathering_same b a.s w.work-is refl w.b-is w.known-is w.grounds-is
            (gathering_several b a.s _ _ w.in-Splits.is w.extend-b-in-Splits.result w.extend-b-in-Splits.ensures.0
            (w.extend-b-in-Splits.ensures.1 ∙ w.mark.ensures.1) a.claim (gathering here)
            (going here)
            (stepped here) (resting here) n _
            (λ e. filled_as w.count-is (ap (λ (x : code.Branch). x.count) w.b-is) w.set-is (filled e))),
        same,
      )
    ]
