-- A step by its rule's kind: closing, with one conclusion, or with several. Its body has m bytes, as its record says.
use Prim.Native.Nat.{ℕ, ◌+◌, ◌≤◌, ◌<◌}
use native.Mathlib.Omega.{arith}
use mathlib.Core.Path.{◌≡◌, refl, sym, ◌∙◌, ap, subst}
use mathlib.Core.Logic.{inl, inr}
use mathlib.Core.Bool.{Bool, true, false, cond}
use mathlib.Core.Option.{Option, some}
use mathlib.Core.List.{List, [], ◌++◌}
use lib.ListN.{length, length-map}
use lib.Dec.{leb}
use lib.IntN.{ℤ}
use borrow.Author.Tests.{leb-true, leb-false}
use Rattle.lists.proofs.Options.{some_none}
use Rattle.lists.proofs.Tests.{and_both}
use Rattle.calculus.specs.Limits.{pending_limit}
use Rattle.calculus.specs.Facts.{Question, Fact, Branch}
use Rattle.calculus.specs.Steps.{shape}
use Rattle.calculus.proofs.Shapes.{children_shape}
use Rattle.format.specs.Records.{size}
use Rattle.format.specs.StepForms.{rule, child_field, length_fits, step_at}
use Rattle.format.specs.Checking.{fits, or_none, children_within, room_for_all, room_to_pend, all_tried, taken_tried, child_in}
use Rattle.format.proofs.Faults.{none_applies}
use Rattle.format.proofs.Limits.{tried→limits}
use Rattle.rows.specs.Rows.{branch_of}
use Rattle.rows.specs.Work.{Fine}
use Rattle.delimiters.specs.declared.Claim.{Claim}
use Rattle.delimiters.specs.declared.Claim.TheVariants.{NoSolution, Strings}
use Rattle.question.specs.declared.Progress.{Progress}
use Rattle.question.specs.Posed.{asked}
use Rattle.steps.specs.declared.Rule.{Rule}
use Rattle.steps.specs.Rules.{rule_named}
use Rattle.steps.specs.Forms.{Formed}
use Rattle.steps.specs.Faults.{field_fits}
use Rattle.steps.specs.Offered.{offered, offered_child, with_child, child_fault, tried_under}
use Rattle.steps.specs.Ready.{Ready, ReadyBy}
use Rattle.steps.specs.Conclusions.{conclusions_of}
use Rattle.steps.specs.declared.Conclusions.{Conclusions}
use Rattle.steps.specs.declared.Conclusions.TheVariants.{Nothing, One, Several}
use Rattle.steps.proofs.Bodies.{its_kind}
use Rattle.steps.proofs.Children.{few_children}
use Rattle.steps.proofs.Concluding.{only_child, some_child}
use Rattle.steps.proofs.Offered.{fitted}
use Rattle.trials.proofs.Tried.{closing_eight}
use Rattle.conclusions.specs.Made.{closing_of}
use Rattle.conclusions.proofs.Tried.{Single, one_conclusion, tried_once}
use Rattle.derivation.specs.State.{offered_in, tried_at}
use Rattle.derivation.specs.Ok.{Splits}
use Rattle.derivation.specs.Actions.{Begins, Follows, Acts, begun_child, begun_as, ReadyUnder}
use Rattle.derivation.specs.declared.Action.TheVariants as action
use Rattle.derivation.proofs.Children.{none_of_these}

-- ---- the number that refuses it, with so many splits pending

module _ (b : List ℕ) (u : Question) (br : Branch) (at m : ℕ) (em : m ≡ size b at) where
  abbrev given : Option (List (List Fact))
  given = offered b u br (at + 6) m

  pub numbered : (pending f : ℕ) → f ≡ all_tried br pending given → f ≡ all_tried br pending (offered_in b u br at)
  numbered pending f e = e ∙ ap (λ (i : ℕ). all_tried br pending (offered b u br (at + 6) i)) em

  -- a rule that closes
  pub step_open : closing_of false ≡ given → (pending : ℕ) → 8 ≡ all_tried br pending (offered_in b u br at)
  unfolding closing_of
  step_open e pending = numbered pending 8 (ap (λ (o : Option (List (List Fact))). all_tried br pending o) e)

  pub step_closes : closing_of true ≡ given → (pending : ℕ) → 0 ≡ all_tried br pending (offered_in b u br at)
  unfolding closing_of children_within room_for_all
  step_closes e pending = numbered pending 0 (ap (λ (o : Option (List (List Fact))). all_tried br pending o) e)

  pub no_children : closing_of true ≡ given → offered_in b u br at ≡ some []
  unfolding closing_of
  no_children e = sym (e ∙ ap (λ (i : ℕ). offered b u br (at + 6) i) em)

  -- a rule with one conclusion: "all children" are the one
  pub one_tried : length_fits b (at + 6) m ≡ true
      → conclusions_of (rule b (at + 6)) ≡ One
      → (f : ℕ)
      → f ≡ taken_tried br (child_in given 1)
      → (pending : ℕ)
      → f ≡ all_tried br pending given
  one_tried l c f e pending = e ∙ sym (tried_once br pending given (one_conclusion u br b (at + 6) m l c))

  -- its first child stands after the branch
  pub first_begins : (n : ℕ)
      → Splits b u br at n
      → (w : List ℤ) (k : ℕ)
      → branch_of w k ≡ br ++ offered_child b u br (at + 6) m 1
      → Fine w k
      → Begins b u br at n w k
  first_begins n sp w k e f = record {
    splits = sp;
    rows = e ∙ ap (λ (i : ℕ). br ++ offered_child b u br (at + 6) i 1) em;
    fine = f;
  }

-- ---- a step to which none of 8 to 10 applies

module _ (b : List ℕ) (u : Question) (br : Branch) (at m pending : ℕ) (em : m ≡ size b at) (f : Formed b u (at + 6) m)
    (e : all_tried br pending (offered b u br (at + 6) m) ≡ 0) where
  abbrev its : Option (List (List Fact))
  its = offered b u br (at + 6) m

  untried : (cs : List (List Fact)) → its ≡ some cs → all_tried br pending (some cs) ≡ 0
  untried cs q = ap (λ (o : Option (List (List Fact))). all_tried br pending o) (sym q) ∙ e

  passed : (cs : List (List Fact)) → its ≡ some cs → (children_within cs ≡ true) × (room_for_all (length br) cs ≡ true)
  passed cs q =
      let (within, later) = none_applies 8 (children_within cs) _ (untried cs q) in
      (within, (and_both (room_for_all (length br) cs) (room_to_pend pending cs) (none_applies 9 _ 0 later).0).0)

  splits_by : (cs : List (List Fact)) → its ≡ some cs → Splits b u br at (length cs)
  splits_by cs q = record {
    formed = subst (λ (i : ℕ). Formed b u (at + 6) i) em f;
    its_children = cs;
    fit = ap (λ (i : ℕ). offered b u br (at + 6) i) (sym em) ∙ q;
    number = refl;
    within = (passed cs q).0;
    room = (passed cs q).1;
  }

  found : (cs : List (List Fact)) × (its ≡ some cs)
  found = (or_none its, fitted its (none_applies 7 (fits its) _ e).0)

  -- one conclusion
  pub one_child : conclusions_of (rule b (at + 6)) ≡ One → Splits b u br at 1
  one_child c = go (one_conclusion u br b (at + 6) m f.fits c)
    where
      go : Single its → Splits b u br at 1
      go (inl n) = absurd (some_none (sym found.1 ∙ n))
      go (inr (x, q)) = splits_by _ q

  shaped : length found.0 ≡ length (shape u.n (step_at b (at + 6) m))
  unfolding offered
  shaped = sym (length-map found.0 length) ∙ ap length (children_shape u br (step_at b (at + 6) m) found.0 found.1)

  -- several, as many as the form shows
  pub its_splits : Splits b u br at (length (shape u.n (step_at b (at + 6) m)))
  its_splits = subst (λ (n : ℕ). Splits b u br at n) shaped (splits_by found.0 found.1)

  -- with two or more there is room to pend
  pub room_to_pend_law : 2 ≤ length (shape u.n (step_at b (at + 6) m)) → pending < pending_limit
  room_to_pend_law h = (tried→limits br pending found.0 (untried found.0 found.1)).splits (omega (arith, shaped))

-- ---- under either claim

-- a step by its rule, which has so many conclusions
pub ready_by : {claim : Claim} {r : Rule} {b : List ℕ} {s : Progress} {at m : ℕ} {w : List ℤ} {count : ℕ} {k : Conclusions}
    → ReadyUnder claim r b s at m w count
    → conclusions_of (rule_named r) ≡ k
    → ReadyBy r k b s (at + 6) m w count
ready_by h c = record { ready = h.ready; named = h.named; concludes = c }

module _ (b : List ℕ) (s : Progress) (at m : ℕ) (em : m ≡ size b at) (w : List ℤ) (count : ℕ) where
  pub by_size : (claim : Claim) (pending f : ℕ) → f ≡ tried_under claim b s (at + 6) m w count pending → f ≡ tried_at claim b s at w count pending
  by_size claim pending f e = e ∙ ap (λ (i : ℕ). tried_under claim b s (at + 6) i w count pending) em

  -- the child taken stands after the branch
  follows : (v : List ℤ) (k : ℕ) → branch_of v k ≡ with_child b s (at + 6) m w count (child_field b (at + 6)) → Fine v k
      → Follows b (asked b s) (branch_of w count) at v k
  follows v k e f = record { rows = e ∙ ap (λ (i : ℕ). with_child b s (at + 6) i w count (child_field b (at + 6))) em; fine = f }

  -- a rule that closes has no child to take
  pub none_to_take : Ready b s (at + 6) m w count → conclusions_of (rule b (at + 6)) ≡ Nothing → (pending : ℕ) → 8 ≡ tried_at Strings b s at w count pending
  none_to_take h c pending = by_size Strings pending 8 (closing_eight h (child_field b (at + 6)) c)

  -- ---- one conclusion

  module _ (r : Rule) (h : ReadyBy r One b s (at + 6) m w count) where
    -- "it is 1 for a rule with one conclusion or none"
    first : field_fits Strings b s.n (at + 6) m ≡ true → 1 ≡ child_field b (at + 6)
    first e = sym (only_child b s.n (at + 6) m (child_field b (at + 6)) h.ready.formed.fits (its_kind h) e)

    pub one_number : (f : ℕ)
        → f ≡ child_fault b s (at + 6) m w count 1
        → (claim : Claim) (pending : ℕ)
        → field_fits claim b s.n (at + 6) m ≡ true
        → f ≡ tried_at claim b s at w count pending
    one_number f e NoSolution pending fits =
        by_size NoSolution pending f
        (one_tried b (asked b s) (branch_of w count) at m em h.ready.formed.fits (its_kind h) f e pending)
    one_number f e Strings pending fits = by_size Strings pending f (e ∙ ap (λ (k : ℕ). child_fault b s (at + 6) m w count k) (first fits))

    pub one_acts : (v : List ℤ) (k : ℕ)
        → 0 ≡ child_fault b s (at + 6) m w count 1
        → branch_of v k ≡ with_child b s (at + 6) m w count 1
        → Fine v k
        → (claim : Claim) (pending : ℕ)
        → field_fits claim b s.n (at + 6) m ≡ true
        → Acts claim b (asked b s) at pending w count v (action.Extends k)
    unfolding Acts
    one_acts v k z e f NoSolution pending fits =
        let br = branch_of w count in
        let tried = one_tried b (asked b s) br at m em h.ready.formed.fits (its_kind h) 0 z pending in
        first_begins b (asked b s) br at m em 1 (one_child b (asked b s) br at m pending em h.ready.formed (sym tried) (its_kind h)) v k e f
    one_acts v k z e f Strings pending fits = follows v k (e ∙ ap (λ (i : ℕ). with_child b s (at + 6) m w count i) (first fits)) f

  -- ---- several, of which one begins

  module _ (r : Rule) (h : ReadyBy r Several b s (at + 6) m w count) (pending : ℕ) where
    abbrev its_shape : List ℕ
    its_shape = shape s.n (step_at b (at + 6) m)

    split_up : tried_under NoSolution b s (at + 6) m w count pending ≡ 0 → Splits b (asked b s) (branch_of w count) at (length its_shape)
    unfolding asked
    split_up z = its_splits b (asked b s) (branch_of w count) at m pending em h.ready.formed z

    has_child : 1 ≤ length its_shape
    has_child = some_child b s.n (at + 6) m h.ready.formed.fits (its_kind h)

    -- none of 8 to 10 applies to the child that begins
    pub begun_fits : (claim : Claim)
        → tried_under claim b s (at + 6) m w count pending ≡ 0
        → child_fault b s (at + 6) m w count (begun_child claim b (at + 6)) ≡ 0
    begun_fits NoSolution z = ap (λ (i : ℕ). child_fault b s (at + 6) i w count 1) em ∙ none_of_these (split_up z) 1 (omega arith) has_child
    begun_fits Strings z = z

    pub begun_acts : (claim : Claim) (last k : ℕ) (v : List ℤ)
        → last ≡ length its_shape
        → tried_under claim b s (at + 6) m w count pending ≡ 0
        → branch_of v k ≡ with_child b s (at + 6) m w count (begun_child claim b (at + 6))
        → Fine v k
        → Acts claim b (asked b s) at pending w count v (begun_as claim last k)
    unfolding Acts asked
    begun_acts NoSolution last k v l z e f = go (leb last 1) refl
      where
        splits : Splits b (asked b s) (branch_of w count) at last
        splits = subst (λ (n : ℕ). Splits b (asked b s) (branch_of w count) at n) (sym l) (split_up z)

        go : (t : Bool) → leb last 1 ≡ t → Acts NoSolution b (asked b s) at pending w count v (cond t (action.Extends k) (action.Splits k last))
        go true q =
            let one : last ≡ 1 = omega (arith, l, has_child, leb-true last 1 q) in
            first_begins b (asked b s) (branch_of w count) at m em 1
            (subst (λ (n : ℕ). Splits b (asked b s) (branch_of w count) at n) one splits) v k e f
        go false q =
            let two : 1 < last = leb-false last 1 q in (
              first_begins b (asked b s) (branch_of w count) at m em last splits v k e f,
              record {
                several = its_kind h;
                two = two;
                few = omega (arith, l, few_children b s.n (at + 6) m h.ready.formed.fits);
                room = room_to_pend_law b (asked b s) (branch_of w count) at m pending em h.ready.formed z (omega (arith, l, two));
              },
            )
    begun_acts Strings last k v l z e f = follows v k e f
