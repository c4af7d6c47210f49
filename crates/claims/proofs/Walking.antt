-- The loop over the steps: what is left to read where the walk stands equals the whole.
use Prim.Native.Nat.{ℕ, ◌+◌, ◌≤◌, ◌<◌}
use native.Mathlib.Omega.{arith}
use native.Mathlib.Numerals.{add-one}
use mathlib.Core.Path.{◌≡◌, refl, sym, ◌∙◌, ap, ap₂, subst}
use mathlib.Core.Bool.{true, false}
use mathlib.Core.List.{List, [], ◌∷◌, ◌++◌}
use lib.ListN.{length, take}
use lib.Seq.{take-length}
use lib.IntN.{ℤ}
use borrow.Author.Tests.{eqb-true}
use Rattle.calculus.specs.Limits.{ticket_bytes, fact_limit, pending_limit}
use Rattle.calculus.specs.Facts.{Fact, Branch}
use Rattle.calculus.specs.Walk.{Waiting, Walk, closed, cut_back}
use Rattle.format.specs.Records.{size, kind, next}
use Rattle.format.specs.StepForms.{child_field}
use Rattle.format.specs.Reading.{State, proving, taking, fault}
use Rattle.format.specs.Checking.{checker, Outcome, outcome_of}
use Rattle.rows.specs.Rows.{branch_of}
use Rattle.rows.specs.Work.{Fine}
use Rattle.rows.proofs.Branches.{length_branch, branch_take}
use Rattle.classes.specs.declared.Known.{Known}
use Rattle.classes.specs.Classes.{Knows}
use Rattle.classes.proofs.Laws.{knows_kept, knows_more, knows_grown}
use Rattle.question.specs.declared.Progress.{Progress}
use Rattle.question.specs.Posed.{asked, Posed}
use Rattle.branch.specs.declared.Branch as code
use Rattle.branch.specs.Stack.{split, stack, latest_of}
use Rattle.delimiters.specs.declared.Claim.{Claim}
use Rattle.delimiters.specs.declared.Claim.TheVariants.{NoSolution, Strings}
use Rattle.delimiters.specs.Claims.{open_under, ends_at}
use Rattle.derivation.specs.State.{child_on, waitings, state_of, tried_at, KeepsBelow}
use Rattle.derivation.specs.Ok.{Rooted, AllPend, InOrder}
use Rattle.derivation.specs.Actions.{Follows, Acts}
use Rattle.derivation.specs.declared.Action.{Action}
use Rattle.derivation.specs.declared.Action.TheVariants.{Closes, Extends, Splits}
use Rattle.derivation.proofs.Holding.{fine, waiting}
use Rattle.derivation.proofs.Closing.{rooted_mark}
use Rattle.derivation.proofs.Acting as acting
use Rattle.derivation.proofs.Acting.{entered, same_rows, holds_closed, entered_closed, entered_next, extended, entered_one, split_up, few_split, entered_more}
use Rattle.std.specs.Prelude.{Ok, Err}
use Rattle.faults.specs.Numbers.{number}
use Rattle.faults.specs.declared.Fault.{Fault}
use Rattle.faults.specs.declared.Refusal.{Refusal}
use Rattle.question.proofs.Refusals.{numbered}
use Rattle.cores.specs.declared.Words.{Words}
use Rattle.claims.specs.declared.Walked as walked
use Rattle.claims.specs.Outcomes.{first_upto, outcome_from, walked_of, LeafAt}
use Rattle.claims.specs.Steps.{NextAt}
use Rattle.format.proofs.Faults.{not_both}
use Rattle.format.proofs.StepTurns.{turn_faulty, turn_stepped}
use Rattle.steps.specs.Offered.{offered}

-- no more than the question's constraints are known at first
pub first_few : (claim : Claim) (n : ℕ) → first_upto claim n ≤ n
first_few NoSolution n = omega arith
first_few Strings n = omega arith

-- the state that the loop's branch is in order for, under each claim
unfoldable pub Holds : Claim → List ℕ → Progress → List ℤ → code.Branch → Type 0
Holds NoSolution b s w c = InOrder b s w c
Holds Strings b s w c = Fine w c.count

pub fine_rows : (claim : Claim) (b : List ℕ) (s : Progress) (w : List ℤ) (c : code.Branch) → Holds claim b s w c → Fine w c.count
unfolding Holds
fine_rows NoSolution b s w c h = fine h
fine_rows Strings b s w c h = h

module _ (b : List ℕ) (s : Progress) where
  abbrev on : State Branch (List Fact) → ℕ → ℕ → Outcome
  on st r at = outcome_from b s st r at

  abbrev pub pending_on : List ℤ → code.Branch → List (Waiting Branch (List Fact))
  pending_on w c = waitings b (asked b s) (branch_of w c.count) (stack c)

  abbrev pub stands_at : Claim → List ℤ → code.Branch → State Branch (List Fact)
  stands_at claim w c = open_under claim (branch_of w c.count) (pending_on w c)

  abbrev fault_at : Claim → List ℤ → code.Branch → ℕ → ℕ
  fault_at claim w c i = fault (checker (asked b s)) b (asked b s) (stands_at claim w c) i

  -- where the loop stands, with the work area w: n is its length, and the outcome is fixed
  pub record Going (claim : Claim) (n : ℕ) (outcome : Outcome) (w : List ℤ) (c : code.Branch) (known : Known) (i k : ℕ) : Type 0 where
    pub kept : length w ≡ n
    pub low : k ≤ i
    pub holds : Holds claim b s w c
    pub knows : Knows w c.count known
    pub rest : on (stands_at claim w c) k i ≡ outcome

  -- a state by other names
  pub going_same : {claim : Claim} {n : ℕ} {outcome : Outcome} {i k : ℕ} {x y : List ℤ} {c d : code.Branch} {f g : Known}
      → x ≡ y
      → c ≡ d
      → f ≡ g
      → Going claim n outcome y d g i k
      → Going claim n outcome x c f i k
  going_same e q p g = rw (e, q, p) g

  -- ---- the start

  module _ (w : List ℤ) (c : code.Branch) (p : Posed b s) (f : Fine w s.constraints) (e : branch_of w s.constraints ≡ (asked b s).constraints)
      (n : c.count ≡ s.constraints) (none : stack c ≡ []) where
    root : branch_of w c.count ≡ (asked b s).constraints
    root = ap (branch_of w) n ∙ e

    small : Fine w c.count
    small = subst (λ j. Fine w j) (sym n) f

    in_order : InOrder b s w c
    unfolding AllPend
    in_order = record {
      posed = p;
      room = f.room;
      ok = rw none (record {
        rooted =
            record { long = omega (arith, ap length root); first = ap (take (length (asked b s).constraints)) root ∙ take-length (asked b s).constraints };
        few = omega (arith, length_branch w c.count, small.few);
        small = small.small;
        few_pending = omega arith;
        pend = tt;
      });
    }

    holds_first : (claim : Claim) → Holds claim b s w c
    unfolding Holds
    holds_first NoSolution = in_order
    holds_first Strings = small

    open_first : (claim : Claim) → stands_at claim w c ≡ open_under claim (asked b s).constraints []
    unfolding waitings
    open_first NoSolution = rw (none, root)
    open_first Strings = ap taking root

    pub starts : (claim : Claim) (r at : ℕ) (known : Known) → r ≤ at → Knows w s.constraints known
        → Going claim (length w) (on (open_under claim (asked b s).constraints []) r at) w c known at r
    starts claim r at known low h = record {
      kept = refl;
      low = low;
      holds = holds_first claim;
      knows = subst (λ j. Knows w j known) (sym n) h;
      rest = ap (λ (st : State Branch (List Fact)). on st r at) (open_first claim);
    }

  -- ---- a record that ends the steps

  module _ {claim : Claim} {n : ℕ} {outcome : Outcome} {w : List ℤ} {c : code.Branch} {known : Known} {i k : ℕ}
      (g : Going claim n outcome w c known i k) (v : List ℤ) where
    -- at its record
    pub going_stopped : (f : Fault) (x : Refusal) → NextAt claim b s i (Err f) → (x.fault ≡ f) × (x.record ≡ k) → walked_of b s v (Err x) ≡ outcome
    unfolding walked_of NextAt
    going_stopped f x h e = rw (e.0, e.1) (sym (h (branch_of w c.count) (pending_on w c) k) ∙ g.rest)

    -- as a step
    pub going_refused : next b i ≤ length b
        → (f : Fault) (x : Refusal)
        → number f ≡ fault_at claim w c i
        → (x.fault ≡ f) × (x.record ≡ k)
        → walked_of b s v (Err x) ≡ outcome
    unfolding walked_of
    going_refused h f x e q =
        rw (q.0, q.1) (sym (ap outcome_of (turn_faulty (checker (asked b s)) b (asked b s) (stands_at claim w c) k i h (number f) e (numbered f))) ∙ g.rest)

  pub going_model : (claim : Claim) (n : ℕ) (outcome : Outcome) (w : List ℤ) (c : code.Branch) (known : Known) (i k j : ℕ)
      → Going claim n outcome w c known i k
      → ends_at claim j ≡ true
      → walked_of b s w (Ok (walked.TheVariants.Model i k c.count)) ≡ outcome
  unfolding walked_of
  going_model NoSolution n outcome w c known i k j g e = absurd (not_both false e refl)
  going_model Strings n outcome w c known i k j g e = g.rest

  pub leaf_here : (claim : Claim) (n : ℕ) (outcome : Outcome) (w : List ℤ) (c : code.Branch) (known : Known) (i k j : ℕ)
      → Going claim n outcome w c known i k
      → ends_at claim j ≡ true
      → j ≡ kind b i
      → next b i ≤ length b
      → LeafAt b w (walked.TheVariants.Model i k c.count)
  unfolding LeafAt Holds
  leaf_here NoSolution n outcome w c known i k j g e q h = absurd (not_both false e refl)
  leaf_here Strings n outcome w c known i k j g e q h = record { model = sym q ∙ eqb-true j 7 e; whole = h; fine = g.holds; low = g.low }

  -- ---- a step

  -- the step in a record of m bytes at a position, with the work area v after it
  pub record Stepped (claim : Claim) (w : List ℤ) (c : code.Branch) (i m : ℕ) (v : List ℤ) (a : Action) : Type 0 where
    pub sized : m ≡ size b i
    pub whole : next b i ≤ length b
    pub step : kind b i ≡ 6
    pub number : 0 ≡ fault_at claim w c i
    pub acts : Acts claim b (asked b s) i c.depth w c.count v a

  -- the number that it was tried for is that with the splits that are pending: under claim 1 as many as the depth says
  pub as_pending : (claim : Claim) (w : List ℤ) (c : code.Branch) (i : ℕ)
      → Holds claim b s w c
      → tried_at claim b s i w c.count c.depth ≡ tried_at claim b s i w c.count (length (pending_on w c))
  unfolding Holds
  as_pending NoSolution w c i h = ap (λ (j : ℕ). tried_at NoSolution b s i w c.count j) (sym (waiting h))
  as_pending Strings w c i h = refl

  -- under claim 2 no branch closes and none splits: the child taken follows
  module _ {w : List ℤ} {c : code.Branch} {i m : ℕ} {v : List ℤ} {a : Action} (t : Stepped Strings w c i m v a) where
    abbrev Does : Action → Type 0
    Does x = Acts Strings b (asked b s) i c.depth w c.count v x

    closes_alone : a ≡ Closes → ⊥
    unfolding Acts
    closes_alone q = subst Does q t.acts

    follows_alone : (f : ℕ) → a ≡ Extends f → Follows b (asked b s) (branch_of w c.count) i v f
    unfolding Acts
    follows_alone f q = subst Does q t.acts

    splits_alone : (f l : ℕ) → a ≡ Splits f l → ⊥
    unfolding Acts
    splits_alone f l q = subst Does q t.acts

  module _ {n : ℕ} {outcome : Outcome} {w : List ℤ} {c : code.Branch} {known : Known} {i k : ℕ} {m : ℕ} {v : List ℤ} {a : Action} where
    -- ---- claim 1

    module _ (g : Going NoSolution n outcome w c known i k) (t : Stepped NoSolution w c i m v a) where
      held : InOrder b s w c
      unfolding Holds
      held = g.holds

      abbrev into : Walk Branch (List Fact)
      into = entered held i v a t.acts

      -- the walk enters it
      on_from : (x : Walk Branch (List Fact)) → x ≡ into → on (proving x) (k + 1) (i + 6 + m) ≡ outcome
      unfolding offered
      on_from x q =
          ap (λ (y : Walk Branch (List Fact)). on (proving y) (k + 1) (i + 6 + m)) q
          ∙ ap₂ (λ (l r : ℕ). on (proving into) r (i + 6 + l)) t.sized (add-one k)
          ∙ sym (ap outcome_of (turn_stepped (checker (asked b s)) b (asked b s) (stands_at NoSolution w c) k i t.whole t.step (sym t.number)))
          ∙ g.rest

      going_on : (x : List ℤ) (d : code.Branch) (known' : Known)
          → (state_of b (asked b s) x d ≡ into) × InOrder b s x d
          → Knows x d.count known'
          → length x ≡ length w
          → Going NoSolution n outcome x d known' (i + 6 + m) (k + 1)
      unfolding Holds state_of
      going_on x d known' q h same = record {
        kept = same ∙ g.kept;
        low = omega (arith, g.low);
        holds = q.1;
        knows = h;
        rest = on_from (state_of b (asked b s) x d) q.0;
      }

    -- ---- claim 2

    going_taken : Going Strings n outcome w c known i k
        → Stepped Strings w c i m v a
        → (d : code.Branch)
        → Follows b (asked b s) (branch_of w c.count) i v d.count
        → length v ≡ length w
        → Going Strings n outcome v d known (i + 6 + m) (k + 1)
    unfolding Holds offered
    going_taken g t d f same = record {
      kept = same ∙ g.kept;
      low = omega (arith, g.low);
      holds = f.fine;
      knows = knows_grown (child_on b (asked b s) (branch_of w c.count) i (child_field b (i + 6))) f.rows g.knows;
      rest =
          ap (λ (l : Branch). on (taking l) (k + 1) (i + 6 + m)) f.rows
          ∙ ap₂ (λ (l r : ℕ). on (taking (branch_of w c.count ++ child_on b (asked b s) (branch_of w c.count) i (child_field b (i + 6)))) r (i + 6 + l))
          t.sized (add-one k)
          ∙ sym (ap outcome_of (turn_stepped (checker (asked b s)) b (asked b s) (stands_at Strings w c) k i t.whole t.step (sym t.number)))
          ∙ g.rest;
    }

    -- ---- the branch closes: under claim 1 alone

    pub going_closed : (claim : Claim)
        → Going claim n outcome w c known i k
        → Stepped claim w c i m v a
        → a ≡ Closes
        → c.depth ≡ 0
        → (x : List ℤ) (core : Words)
        → walked_of b s x (Ok (walked.TheVariants.Closed (i + 6 + m) (k + 1) core)) ≡ outcome
    unfolding walked_of
    going_closed NoSolution g t q d x core = on_from g t closed (entered_closed (held g t) i v a t.acts q d)
    going_closed Strings g t q d x core = absurd (closes_alone t q)

    -- the state to cut back from
    pub still_open : (claim : Claim)
        → Going claim n outcome w c known i k
        → Stepped claim w c i m v a
        → a ≡ Closes
        → length v ≡ length w
        → InOrder b s v c × Knows v c.count known
    still_open NoSolution g t q same =
        (holds_closed (held g t) i v a t.acts q same, knows_kept (same_rows (held g t) i v a t.acts q) g.knows)
    still_open Strings g t q same = absurd (closes_alone t q)

    -- its next child begins
    pub going_next : (claim : Claim)
        → Going claim n outcome w c known i k
        → Stepped claim w c i m v a
        → a ≡ Closes
        → (x : List ℤ) (d : code.Branch) (known' : Known)
        → state_of b (asked b s) x d ≡ cut_back ◌++◌ (waitings b (asked b s) (branch_of v c.count) (stack c))
        → InOrder b s x d
        → Knows x d.count known'
        → length x ≡ length w
        → Going claim n outcome x d known' (i + 6 + m) (k + 1)
    going_next NoSolution g t q x d known' p o h same =
        going_on g t x d known' (entered_next (held g t) i v a t.acts q (state_of b (asked b s) x d) p, o) h same
    going_next Strings g t q x d known' p o h same = absurd (closes_alone t q)

    -- ---- the branch goes on

    pub few_extended : (claim : Claim) (f : ℕ) → Going claim n outcome w c known i k → Stepped claim w c i m v a → a ≡ Extends f → f ≤ fact_limit
    few_extended NoSolution f g t q = acting.few_extended (held g t) i v a t.acts f q
    few_extended Strings f g t q = (follows_alone t f q).fine.few

    pub going_one : (claim : Claim) (f : ℕ)
        → Going claim n outcome w c known i k
        → Stepped claim w c i m v a
        → a ≡ Extends f
        → (d : code.Branch)
        → d.count ≡ f
        → stack d ≡ stack c
        → length v ≡ length w
        → Going claim n outcome v d known (i + 6 + m) (k + 1)
    going_one NoSolution f g t q d ed es same =
        going_on g t v d known (entered_one (held g t) i v a t.acts f q d ed es)
        (subst (λ j. Knows v j known) (sym ed) (knows_grown _ (extended (held g t) i v a t.acts f q).rows g.knows)) same
    going_one Strings f g t q d ed es same =
        going_taken g t d (subst (λ j. Follows b (asked b s) (branch_of w c.count) i v j) (sym ed) (follows_alone t f q)) same

    -- ---- the branch splits: under claim 1 alone

    pub can_mark : (claim : Claim) (f l : ℕ)
        → Going claim n outcome w c known i k
        → Stepped claim w c i m v a
        → a ≡ Splits f l
        → ((c.depth < pending_limit) × (i ≤ ticket_bytes) × (l < 256)) × (f ≤ fact_limit)
    can_mark NoSolution f l g t q = (acting.can_mark (held g t) i v a t.acts f l q, few_split (held g t) i v a t.acts f l q)
    can_mark Strings f l g t q = absurd (splits_alone t f l q)

    pub going_more : (claim : Claim) (f l : ℕ)
        → Going claim n outcome w c known i k
        → Stepped claim w c i m v a
        → a ≡ Splits f l
        → (d : code.Branch)
        → d.count ≡ f
        → stack d ≡ split c.count i 2 l ∷ stack c
        → length v ≡ length w
        → Going claim n outcome v d known (i + 6 + m) (k + 1)
    going_more NoSolution f l g t q d ed es same =
        going_on g t v d known (entered_more (held g t) i v a t.acts f l q d ed es)
        (subst (λ j. Knows v j known) (sym ed) (knows_grown _ (split_up (held g t) i v a t.acts f l q).0.rows g.knows)) same
    going_more Strings f l g t q d ed es same = absurd (splits_alone t f l q)

  -- ---- classes that are set back

  -- what was known of the question's constraints at the start, with the work area v, holds at the mark of the last pending split
  pub first_known : (v w : List ℤ) (c : code.Branch) (first : Known)
      → branch_of v s.constraints ≡ (asked b s).constraints
      → Knows v s.constraints first
      → InOrder b s w c
      → 0 < c.depth
      → Knows w (latest_of (stack c)).mark first
  first_known v w c first root h o d =
      let r : Rooted (asked b s) (branch_of w c.count) = o.ok.rooted in
      let n : length (asked b s).constraints ≡ s.constraints = sym (ap length root) ∙ length_branch v s.constraints in
      let same : branch_of w s.constraints ≡ branch_of v s.constraints =
      sym (branch_take w c.count s.constraints (omega (arith, r.long, n, length_branch w c.count)))
      ∙ ap (λ (j : ℕ). take j (branch_of w c.count)) (sym n)
      ∙ r.first
      ∙ sym root in
      knows_more (knows_kept same h) (omega (arith, n, rooted_mark o d (latest_of (stack c)) refl))

  -- and what was set back there on the branch of the next child
  pub known_below : (v w : List ℤ) (mark : ℕ) (d : code.Branch) (known : Known) → KeepsBelow mark v w d → Knows v mark known → Knows w d.count known
  known_below v w mark d known k h = knows_more (knows_kept k.below h) k.behind
