-- The sets along the walk under claim 1: the array has those of the branch's facts, and what was gathered with what is left is the core.
use Prim.Native.Nat.{ℕ, ◌+◌, ◌≤◌, ◌<◌}
use native.Mathlib.Omega.{arith}
use mathlib.Core.Path.{◌≡◌, refl, sym, ◌∙◌, ap, ap₂, subst}
use mathlib.Core.Bool.{Bool, true, false, cond}
use mathlib.Core.Option.{Option, some}
use mathlib.Core.List.{List, [], ◌∷◌, ◌++◌, map}
use lib.ListN.{length, take, length-append}
use lib.Seq.{take-length, take-append-le, take-take, length-take-le}
use lib.Dec.{leb, eqb}
use lib.IntN.{ℤ}
use borrow.Author.Tests.{leb-true}
use Rattle.lists.specs.Lists.{All}
use Rattle.calculus.specs.Facts.{Question, Fact, Branch}
use Rattle.calculus.specs.Steps.{Step}
use Rattle.calculus.specs.Walk.{Waiting, Walk, working, cut_back, enter}
use Rattle.calculus.specs.Cores.{Set, union, Rested, rooted_from, resting, set_at, rests_on, of_closing, core_from, core_in}
use Rattle.calculus.proofs.Cores.{facts_append, facts_resting}
use Rattle.calculus.proofs.Shapes.{children_add}
use Rattle.format.specs.Records.{size, kind, next, records}
use Rattle.format.specs.Reading.{step_with_child}
use Rattle.format.specs.StepForms.{step_at}
use Rattle.format.specs.ProperForm.{steps_at}
use Rattle.format.proofs.Records.{records_more}
use Rattle.format.specs.Checking.{fits, or_none, Outcome}
use Rattle.rows.specs.Rows.{branch_of}
use Rattle.rows.proofs.Branches.{length_branch}
use Rattle.question.specs.declared.Progress.{Progress}
use Rattle.question.specs.Posed.{asked}
use Rattle.steps.specs.declared.Rule.{Rule}
use Rattle.steps.specs.Rules.{rule_named}
use Rattle.steps.specs.Offered.{offered}
use Rattle.conclusions.specs.Labels.{asks_classes}
use Rattle.classes.specs.declared.Known.{Known}
use Rattle.classes.specs.Classes.{Knows, set_back}
use Rattle.branch.specs.declared.Split.{Split}
use Rattle.branch.specs.declared.Branch as code
use Rattle.branch.specs.Stack.{last_first, split, stack, latest_of}
use Rattle.delimiters.specs.declared.Claim.{Claim}
use Rattle.delimiters.specs.declared.Claim.TheVariants.{NoSolution, Strings}
use Rattle.derivation.specs.State.{offered_in, stepped_on, waiting_on, waitings, state_of, CutsBack}
use Rattle.derivation.specs.Actions.{Acts}
use Rattle.derivation.proofs.Acting.{same_rows, extended, entered_one, split_up, entered_more}
use Rattle.derivation.specs.Ok.{Splits, InOrder}
use Rattle.derivation.proofs.Closing.{others, on_top, rooted_mark, mark_behind}
use Rattle.cores.specs.declared.Words.{Words}
use Rattle.cores.specs.Words.{words_of, union_of, unions_of}
use Rattle.cores.specs.Sets.{words_at, Carries, Stands, Filled}
use Rattle.cores.proofs.Resting.{Gathers, gathers_all, gathers_more, gathers_done}
use Rattle.claims.specs.declared.Grounds.{Grounds}
use Rattle.derivation.specs.declared.Action.{Action}
use Rattle.derivation.specs.declared.Action.TheVariants.{Closes, Extends, Splits as SplitsUp}
use Rattle.claims.specs.Outcomes.{first_upto, steps_from}
use Rattle.claims.proofs.Walking.{Holds, Going, Stepped}
use Rattle.cores.proofs.Standing.{unions_grown, carried_next}
use Rattle.claims.specs.Steps.{FirstGrounds, BroughtUp, grounds_back, with_closing, SetOf, Added}
use Rattle.calculus.proofs.Resting.{Adds, Grown, GrownIn, enter_grown, rested_walk, rested_next, standing, facts_next, core_stepped, core_closed}

-- ---- the steps

pub steps_next : (b : List ℕ) (i : ℕ) → next b i ≤ length b → kind b i ≡ 6 → steps_from b i ≡ step_at b (i + 6) (size b i) ∷ steps_from b (next b i)
unfolding steps_at
steps_next b i h k =
    ap (λ l. map (λ (t : Step × ℕ). t.0) (steps_at b l)) (records_more b i (omega arith))
    ∙ ap (λ (j : ℕ). map (λ (t : Step × ℕ). t.0) (elim (eqb j 6) as (λ _. List (Step × ℕ)) [ false ↦ [] | true ↦ step_with_child b i ∷ steps_at b (records b (next b i)) ])) k

-- ---- where the walk stands

-- under claim 2 no set is kept
pub unkept : {A : Type 0} → Strings ≡ NoSolution → A
unkept e = absurd (let z : ◌≡◌ {A = ℕ} 0 1 = cc in omega arith)

-- no split is pending at depth 0
pub no_split : (c : code.Branch) → c.depth ≡ 0 → stack c ≡ []
unfolding stack last_first
no_split c e = ap (λ (d : ℕ). last_first d c.splits) e

module _ (b : List ℕ) (s : Progress) where
  abbrev u : Question
  u = asked b s

  abbrev br : List ℤ → code.Branch → Branch
  br w c = branch_of w c.count

  abbrev pending : List ℤ → code.Branch → List (Waiting Branch (List Fact))
  pending w c = waitings b u (br w c) (stack c)

  -- what the steps from a position on give to the core, where the facts of the branch have their sets
  abbrev left_from : Rested → List ℤ → code.Branch → ℕ → Set
  left_from r w c i = core_from u (rested_walk r (working (br w c) (pending w c))) (steps_from b i)

  -- the facts of the branch with their sets, and what was gathered of the core; whole is the core of all steps
  pub record Gathered (whole : Set) (w : List ℤ) (v : List Words) (c : code.Branch) (known : Known) (grounds : Grounds) (i : ℕ) : Type 0 where
    pub rested : Rested
    pub stands : Stands w v c.count rested
    pub rooted : take s.constraints rested ≡ rooted_from 0 u.constraints
    pub covers : grounds.unions ≡ unions_of (take known.upto rested)
    pub roots : grounds.roots ≡ unions_of (rooted_from 0 u.constraints)
    pub grown : Grown (br w c) (pending w c)
    pub core : Gathers grounds.core (left_from rested w c i) whole

  -- ---- the start

  pub gathered_first : (w : List ℤ) (v : List Words) (c : code.Branch) (known : Known) (grounds : Grounds) (at : ℕ)
      → c.count ≡ s.constraints
      → stack c ≡ []
      → branch_of w s.constraints ≡ u.constraints
      → known.upto ≡ s.constraints
      → FirstGrounds NoSolution w v s.constraints grounds
      → Gathered (core_in u (steps_from b at)) w v c known grounds at
  unfolding FirstGrounds Grown waitings
  gathered_first w v c known grounds at n none e up (h, g, f, z) =
      let r : Rested = rooted_from 0 (branch_of w s.constraints) in
      let long : length r ≡ s.constraints = h.carried.all in
      let same : r ≡ rooted_from 0 u.constraints = ap (rooted_from 0) e in
      let all : take s.constraints r ≡ r = ap (λ (k : ℕ). take k r) (sym long) ∙ take-length r in
      let no-waiting : pending w c ≡ [] = ap (waitings b u (br w c)) none in
      record {
        rested = r;
        stands = subst (λ (k : ℕ). Stands w v k r) (sym n) h;
        rooted = all ∙ same;
        covers = g ∙ ap unions_of (sym (ap (λ (k : ℕ). take k r) up ∙ all));
        roots = f ∙ ap unions_of same;
        grown = subst (Grown (br w c)) (sym no-waiting) tt;
        core = gathers_all grounds.core (left_from r w c at) (core_in u (steps_from b at)) z
            (ap (λ (ps : List (Waiting Branch (List Fact))). core_from u (rested_walk r (working (br w c) ps)) (steps_from b at)) no-waiting
            ∙ ap (λ (x : Rested). core_from u (working x []) (steps_from b at)) same);
      }

  -- ---- the last pending split

  module _ {w : List ℤ} {c : code.Branch} (o : InOrder b s w c) (deep : 0 < c.depth) (t : Split) (last : t ≡ latest_of (stack c)) where
    mark_long : length (take t.mark (br w c)) ≡ t.mark
    mark_long = length-take-le t.mark (br w c) (omega (arith, mark_behind o deep t last, length_branch w c.count))

    top_pending : pending w c ≡ waiting_on b u (take t.mark (br w c)) t ∷ waitings b u (take t.mark (br w c)) (others o deep t last)
    unfolding waitings
    top_pending = ap (waitings b u (br w c)) (on_top o deep t last)

    -- a fact stands at its mark
    below_mark : Grown (br w c) (pending w c) → t.mark < c.count
    unfolding Grown
    below_mark g = let h = subst (Grown (br w c)) top_pending g in omega (arith, h.0, mark_long, length_branch w c.count)

  -- ---- a step

  module _ {whole : Set} {w : List ℤ} {v : List Words} {c : code.Branch} {known : Known} {grounds : Grounds} {i : ℕ} (g : Gathered whole w v c known grounds i)
      (there : next b i ≤ length b) (step : kind b i ≡ 6) where
    abbrev its : Step
    its = step_at b (i + 6) (size b i)

    -- what it rests on
    abbrev pub rest_set : Set
    rest_set = rests_on u g.rested its

    module _ (cs : List (List Fact)) (offer : offered_in b u (br w c) i ≡ some cs) where
      adding : All Adds cs
      unfolding offered
      adding = children_add u (br w c) its cs offer

      abbrev behind : Walk Branch (List Fact)
      behind = enter ◌++◌ (br w c) cs (pending w c)

      abbrev rested_behind : Rested
      rested_behind = rested_next g.rested rest_set cs (pending w c)

      left_stepped : left_from g.rested w c i ≡ union (of_closing cs rest_set) (core_from u (rested_walk rested_behind behind) (steps_from b (next b i)))
      unfolding offered
      left_stepped =
          ap (core_from u (rested_walk g.rested (working (br w c) (pending w c)))) (steps_next b i there step)
          ∙ core_stepped u g.rested (br w c) (pending w c) its (steps_from b (next b i)) cs g.stands.rows offer adding g.grown

      grown_behind : GrownIn behind
      grown_behind = enter_grown (br w c) cs (pending w c) adding g.grown

      -- where the code stands after it
      module _ (x : List ℤ) (d : code.Branch) (state : state_of b u x d ≡ behind) where
        stands_on : working (br x d) (pending x d) ≡ behind
        unfolding state_of
        stands_on = state

        grown_there : Grown (br x d) (pending x d)
        grown_there = subst GrownIn (sym stands_on) grown_behind

        left_there : left_from g.rested w c i ≡ union (of_closing cs rest_set) (left_from rested_behind x d (next b i))
        left_there =
            left_stepped
            ∙ ap (λ (k : Walk Branch (List Fact)). union (of_closing cs rest_set) (core_from u (rested_walk rested_behind k) (steps_from b (next b i)))) (sym stands_on)

    long : length g.rested ≡ c.count
    long = g.stands.carried.all

    -- the branch goes on: the facts of its first child come
    more_there : (child : List Fact) (rest : List (List Fact)) (offer : offered_in b u (br w c) i ≡ some (child ∷ rest)) (x : List ℤ) (d : code.Branch)
        → state_of b u x d ≡ enter ◌++◌ (br w c) (child ∷ rest) (pending w c)
        → (br x d ≡ br w c ++ child) × (d.count ≡ c.count + length child)
    more_there child rest offer x d state =
        let stood : br x d ≡ br w c ++ child = ap standing (stands_on (child ∷ rest) offer x d state) in
        (stood, omega (arith, length_branch x d.count, length_branch w c.count, ap length stood, length-append (br w c) child))

    added_more : (child : List Fact) (rest : List (List Fact)) (offer : offered_in b u (br w c) i ≡ some (child ∷ rest)) (x : List ℤ) (d : code.Branch)
        → state_of b u x d ≡ enter ◌++◌ (br w c) (child ∷ rest) (pending w c)
        → Added c.count d.count
    added_more child rest offer x d state =
        let n = (more_there child rest offer x d state).1 in
        let adds = (adding (child ∷ rest) offer).0 in
        omega (arith, n, adds.0, adds.1)

    pub gathered_more : (child : List Fact) (rest : List (List Fact)) → offered_in b u (br w c) i ≡ some (child ∷ rest)
        → (x : List ℤ) (d : code.Branch) → state_of b u x d ≡ enter ◌++◌ (br w c) (child ∷ rest) (pending w c)
        → (set : Words) → set ≡ words_of rest_set
        → (v' : List Words) → Filled v c.count d.count set v'
        → known.upto ≤ c.count
        → s.constraints ≤ c.count
        → Gathered whole x v' d known grounds (next b i)
    unfolding union
    gathered_more child rest offer x d state set e v' f up root =
        let r : Rested = g.rested in
        let (stood, n) = more_there child rest offer x d state in
        let all : take c.count r ≡ r = ap (λ (k : ℕ). take k r) (sym long) ∙ take-length r in
        record {
          rested = r ++ resting rest_set child;
          stands = record {
            rows = facts_append r (resting rest_set child) ∙ ap₂ ◌++◌ g.stands.rows (facts_resting rest_set child) ∙ sym stood;
            carried = subst (λ (q : Rested). Carries v' d.count (q ++ resting rest_set child)) all
                (carried_next v v' c.count c.count d.count set r rest_set child g.stands.carried f (omega arith) e n);
          };
          rooted = take-append-le s.constraints r (resting rest_set child) (omega (arith, long)) ∙ g.rooted;
          covers = g.covers ∙ ap unions_of (sym (take-append-le known.upto r (resting rest_set child) (omega (arith, long))));
          roots = g.roots;
          grown = grown_there (child ∷ rest) offer x d state;
          core = subst (λ (l : Set). Gathers grounds.core l whole) (left_there (child ∷ rest) offer x d state) g.core;
        }

    module _ (offer : offered_in b u (br w c) i ≡ some []) (set : Words) (e : set ≡ words_of rest_set) where
      -- the branch closes, and what it rests on is gathered
      gathered_set : (next-core : Words) (behind : Set) → next-core ≡ union_of grounds.core set → left_from g.rested w c i ≡ union rest_set behind
          → Gathers next-core behind whole
      gathered_set next-core behind n l = gathers_more grounds.core set next-core (left_from g.rested w c i) rest_set behind whole l e n g.core

      -- it was the last
      pub gathered_all : stack c ≡ [] → union_of grounds.core set ≡ words_of whole
      unfolding waitings
      gathered_all none =
          let last : Set = core_from u (rested_walk (rested_behind [] offer) (behind [] offer)) (steps_from b (next b i)) in
          let nothing_left : last ≡ [] =
          ap (λ (ps : List (Waiting Branch (List Fact))).
          core_from u (rested_walk (rested_next g.rested rest_set [] ps) (enter ◌++◌ (br w c) [] ps)) (steps_from b (next b i))) (ap (waitings b u (br w c)) none)
          ∙ core_closed u (steps_from b (next b i)) in
          gathers_done (union_of grounds.core set) last whole nothing_left (gathered_set (union_of grounds.core set) last refl (left_stepped [] offer))

      -- the next child of the last pending split begins, on what is left of the branch at its mark; what it rests on stands there
      module _ (p : Waiting Branch (List Fact)) (ps : List (Waiting Branch (List Fact))) (top : pending w c ≡ p ∷ ps) where
        abbrev m : ℕ
        m = length p.mark

        abbrev cut : Rested
        cut = take m g.rested ++ resting (set_at g.rested m) p.child

        top_grown : Grown (br w c) (p ∷ ps)
        top_grown = subst (Grown (br w c)) top g.grown

        below : m < c.count
        unfolding Grown
        below = omega (arith, top_grown.0, length_branch w c.count)

        front : length (take m g.rested) ≡ m
        front = length-take-le m g.rested (omega (arith, below, long))

        kept_front : (k : ℕ) → k ≤ m → take k cut ≡ take k g.rested
        kept_front k h = take-append-le k (take m g.rested) (resting (set_at g.rested m) p.child) (omega (arith, front)) ∙ take-take k m g.rested h

        -- what is kept of the branch there
        abbrev back : Grounds
        back = grounds_back (with_closing grounds set) known.upto m

        abbrev KeptThere : Known → Grounds → Type 0
        KeptThere f x =
            (x.unions ≡ unions_of (take f.upto cut)) × (x.roots ≡ unions_of (rooted_from 0 u.constraints)) × (x.core ≡ union_of grounds.core set)

        kept_there : (first : Known) → first.upto ≡ s.constraints → s.constraints ≤ m → KeptThere (set_back known first m) back
        kept_there first up root = go (leb known.upto m) refl
          where
            go : (t : Bool) → leb known.upto m ≡ t
                → KeptThere (cond t known first)
                (cond t (with_closing grounds set) (record { unions = grounds.roots; roots = grounds.roots; core = union_of grounds.core set }))
            go true e = (g.covers ∙ ap unions_of (sym (kept_front known.upto (leb-true known.upto m e))), g.roots, refl)
            go false e =
                (g.roots ∙ ap unions_of (sym (ap (λ (k : ℕ). take k cut) up ∙ kept_front s.constraints root ∙ g.rooted)), g.roots, refl)

        cut_there : (x : List ℤ) (d : code.Branch) → state_of b u x d ≡ enter ◌++◌ (br w c) [] (pending w c)
            → (br x d ≡ p.mark ++ p.child) × (d.count ≡ m + length p.child)
        cut_there x d state =
            let stood : br x d ≡ p.mark ++ p.child = ap standing (stands_on [] offer x d state ∙ ap (cut_back ◌++◌) top) in
            (stood, omega (arith, length_branch x d.count, ap length stood, length-append p.mark p.child))

        added_cut : (x : List ℤ) (d : code.Branch) → state_of b u x d ≡ enter ◌++◌ (br w c) [] (pending w c) → Added m d.count
        unfolding Grown
        added_cut x d state = let n = (cut_there x d state).1 in omega (arith, n, top_grown.2.0, top_grown.2.1)

        gathered_cut : (x : List ℤ) (d : code.Branch) → state_of b u x d ≡ enter ◌++◌ (br w c) [] (pending w c)
            → (v' : List Words) → Filled v m d.count (words_at v m) v'
            → (first : Known) → first.upto ≡ s.constraints → s.constraints ≤ m
            → Gathered whole x v' d (set_back known first m) back (next b i)
        gathered_cut x d state v' f first up root =
            let (stood, n) = cut_there x d state in
            record {
              rested = cut;
              stands = record {
                rows = facts_next g.rested rest_set (br w c) p ps g.stands.rows top_grown ∙ sym stood;
                carried = carried_next v v' c.count m d.count (words_at v m) g.rested (set_at g.rested m) p.child g.stands.carried f
                    (omega (arith, below)) (g.stands.carried.words m below) n;
              };
              rooted = kept_front s.constraints root ∙ g.rooted;
              covers = (kept_there first up root).0;
              roots = (kept_there first up root).1;
              grown = grown_there [] offer x d state;
              core = gathered_set back.core (left_from cut x d (next b i)) (kept_there first up root).2
                  (left_there [] offer x d state
                  ∙ ap (λ (qs : List (Waiting Branch (List Fact))). union rest_set
                  (core_from u (rested_walk (rested_next g.rested rest_set [] qs) (working (br x d) (pending x d))) (steps_from b (next b i)))) top);
            }

      added_next : (o : InOrder b s w c) (deep : 0 < c.depth) (t : Split) (last : t ≡ latest_of (stack c)) (x : List ℤ) (d : code.Branch)
          → state_of b u x d ≡ cut_back ◌++◌ (pending w c)
          → Added t.mark d.count
      added_next o deep t last x d state =
          subst (λ (k : ℕ). Added k d.count) (mark_long o deep t last)
          (added_cut (waiting_on b u (take t.mark (br w c)) t) (waitings b u (take t.mark (br w c)) (others o deep t last)) (top_pending o deep t last) x d state)

      pub gathered_next : (o : InOrder b s w c) (deep : 0 < c.depth) (t : Split) (last : t ≡ latest_of (stack c))
          → (x : List ℤ) (d : code.Branch) → state_of b u x d ≡ cut_back ◌++◌ (pending w c)
          → (v' : List Words) → Filled v t.mark d.count (words_at v t.mark) v'
          → (first : Known) → first.upto ≡ s.constraints
          → s.constraints ≡ length u.constraints
          → Gathered whole x v' d (set_back known first t.mark) (grounds_back (with_closing grounds set) known.upto t.mark) (next b i)
      gathered_next o deep t last x d state v' f first up n =
          let l : List Split = others o deep t last in
          let at_mark : Branch = take t.mark (br w c) in
          let m : length at_mark ≡ t.mark = mark_long o deep t last in
          subst (λ (k : ℕ). Gathered whole x v' d (set_back known first k) (grounds_back (with_closing grounds set) known.upto k) (next b i)) m
          (gathered_cut (waiting_on b u at_mark t) (waitings b u at_mark l) (top_pending o deep t last) x d state v'
          (subst (λ (k : ℕ). Filled v k d.count (words_at v k) v') (sym m) f) first up (omega (arith, n, m, rooted_mark o deep t last)))

  -- facts that are brought in
  pub gathered_for : {whole : Set} {w : List ℤ} {v : List Words} {c : code.Branch} {known more : Known} {grounds brought : Grounds} {i : ℕ}
      → Gathered whole w v c known grounds i
      → (known.upto ≤ more.upto) × (more.upto ≤ c.count)
      → BroughtUp NoSolution w v known.upto more.upto grounds brought
      → Gathered whole w v c more brought i
  unfolding BroughtUp
  gathered_for {whole} {w} {v} {c} {known} {more} {grounds} {brought} {i} g (grows, few) (h, r, z) = record {
    rested = g.rested;
    stands = g.stands;
    rooted = g.rooted;
    covers = unions_grown known.upto more.upto grounds.unions brought.unions grows few h g.rested g.stands g.covers;
    roots = r ∙ g.roots;
    grown = g.grown;
    core = subst (λ (x : Words). Gathers x (left_from g.rested w c i) whole) (sym z) g.core;
  }

  -- ---- under each claim: under claim 2 no set is kept

  pub record Gathering (claim : Claim) (whole : Set) (w : List ℤ) (v : List Words) (c : code.Branch) (known : Known) (grounds : Grounds) (i : ℕ) : Type 0 where
    pub under : claim ≡ NoSolution → Gathered whole w v c known grounds i

  -- a state by other names
  pub gathering_same : {claim : Claim} {whole : Set} {i : ℕ} {w x : List ℤ} {v y : List Words} {c d : code.Branch} {known more : Known} {grounds brought : Grounds}
      → w ≡ x
      → v ≡ y
      → c ≡ d
      → known ≡ more
      → grounds ≡ brought
      → Gathering claim whole x y d more brought i
      → Gathering claim whole w v c known grounds i
  gathering_same p q r f e g = rw (p, q, r, f, e) g

  pub gathering_first : (claim : Claim) (w : List ℤ) (v : List Words) (c : code.Branch) (known : Known) (grounds : Grounds) (at : ℕ)
      → c.count ≡ s.constraints
      → stack c ≡ []
      → branch_of w s.constraints ≡ u.constraints
      → known.upto ≡ first_upto claim s.constraints
      → FirstGrounds claim w v s.constraints grounds
      → Gathering claim (core_in u (steps_from b at)) w v c known grounds at
  gathering_first NoSolution w v c known grounds at n none e up h = record { under = λ _. gathered_first w v c known grounds at n none e up h }
  gathering_first Strings w v c known grounds at n none e up h = record { under = unkept }

  pub gathering_for : (claim : Claim) {whole : Set} {w : List ℤ} {v : List Words} {c : code.Branch} {known : Known} {grounds : Grounds} {i : ℕ} (more : Known) (brought : Grounds)
      → Gathering claim whole w v c known grounds i
      → (known.upto ≤ more.upto) × (more.upto ≤ c.count)
      → BroughtUp claim w v known.upto more.upto grounds brought
      → Gathering claim whole w v c more brought i
  gathering_for NoSolution more brought g few h = record { under = λ _. gathered_for (g.under refl) few h }
  gathering_for Strings more brought g few h = record { under = unkept }

  -- the step in a record of m bytes, by a rule under its name, on the branch where the loop stands, with the labels and unions for its rule: set is what it
  -- rests on
  pub record Rests (claim : Claim) (rule : Rule) (w : List ℤ) (v : List Words) (c : code.Branch) (known : Known) (grounds : Grounds) (i m : ℕ) (set : Words) : Type 0 where
    pub brought : asks_classes (rule_named rule) ≡ true → known.upto ≡ c.count
    pub rests : SetOf claim rule b s i m w c.count v grounds.unions set

  -- the first child of a step that has some
  first_child : (w : List ℤ) (c : code.Branch) (i j : ℕ) (sp : Splits b u (br w c) i j) → 1 ≤ j
      → (child : List Fact) × (rest : List (List Fact)) × (offered_in b u (br w c) i ≡ some (child ∷ rest))
  first_child w c i j sp one = by_children sp.its_children sp.fit sp.number
    where
      by_children : (cs : List (List Fact)) → offered_in b u (br w c) i ≡ some cs → length cs ≡ j
          → (child : List Fact) × (rest : List (List Fact)) × (offered_in b u (br w c) i ≡ some (child ∷ rest))
      by_children [] e l = absurd (omega arith)
      by_children (child ∷ rest) e l = (child, rest, e)

  module _ {all : Set} {w : List ℤ} {v : List Words} {c : code.Branch} {known : Known} {grounds : Grounds} {i m : ℕ} {y : List ℤ} {a : Action}
      (g : Gathered all w v c known grounds i) (t : Stepped b s NoSolution w c i m y a) where
    set_rests : {rule : Rule} {set : Words} (h : Rests NoSolution rule w v c known grounds i m set) (cs : List (List Fact)) → offered_in b u (br w c) i ≡ some cs
        → set ≡ words_of (rest_set g t.whole t.step)
    unfolding SetOf
    set_rests h cs offer =
        let r : Rested = g.rested in
        h.rests r g.stands
        (λ asks. g.covers ∙ ap unions_of (ap (λ (k : ℕ). take k r) (h.brought asks ∙ sym g.stands.carried.all) ∙ take-length r))
        (ap (λ (k : ℕ). fits (offered b u (br w c) (i + 6) k)) t.sized ∙ ap fits offer)
        ∙ ap (λ (k : ℕ). words_of (rests_on u r (step_at b (i + 6) k))) t.sized

    -- it has children: the first begins
    module _ (j : ℕ) (sp : Splits b u (br w c) i j) (one : 1 ≤ j) (x : List ℤ) (d : code.Branch) (state : state_of b u x d ≡ stepped_on b u (br w c) (pending w c) i) where
      abbrev begun : (child : List Fact) × (rest : List (List Fact)) × (offered_in b u (br w c) i ≡ some (child ∷ rest))
      begun = first_child w c i j sp one

      into : state_of b u x d ≡ enter ◌++◌ (br w c) (begun.0 ∷ begun.1) (pending w c)
      into = state ∙ ap (λ (q : Option (List (List Fact))). enter ◌++◌ (br w c) (or_none q) (pending w c)) begun.2

      added_begun : Added c.count d.count
      added_begun = added_more g t.whole t.step begun.0 begun.1 begun.2 x d into

      gathered_begun : {rule : Rule} {set : Words} → Rests NoSolution rule w v c known grounds i m set
          → Knows w c.count known
          → InOrder b s w c
          → s.constraints ≡ length u.constraints
          → (v' : List Words) → Filled v c.count d.count set v'
          → Gathered all x v' d known grounds (i + 6 + m)
      gathered_begun {set = set} h k o n v' f =
          subst (λ (q : ℕ). Gathered all x v' d known grounds (i + 6 + q)) (sym t.sized)
          (gathered_more g t.whole t.step begun.0 begun.1 begun.2 x d into set (set_rests h (begun.0 ∷ begun.1) begun.2) v' f k.few
          (omega (arith, n, o.ok.rooted.long, length_branch w c.count)))

  -- ---- what follows a step, under either claim, from where the loop stands

  in_order : {n i k : ℕ} {outcome : Outcome} {w : List ℤ} {c : code.Branch} {known : Known} → Going b s NoSolution n outcome w c known i k → InOrder b s w c
  unfolding Holds
  in_order h = h.holds

  closing : {w y : List ℤ} {c : code.Branch} {i m : ℕ} {a : Action} → Stepped b s NoSolution w c i m y a → a ≡ Closes → offered_in b u (br w c) i ≡ some []
  unfolding Acts
  closing {w} {y} {c} {i} t q = (subst (Acts NoSolution b u i c.depth w c.count y) q t.acts).0

  pub fact_at_mark : (claim : Claim) {all : Set} {n : ℕ} {outcome : Outcome} {w : List ℤ} {v : List Words} {c : code.Branch} {known : Known} {grounds : Grounds}
      {i k m : ℕ} {y : List ℤ} {a : Action}
      → Gathering claim all w v c known grounds i
      → Going b s claim n outcome w c known i k
      → Stepped b s claim w c i m y a
      → a ≡ Closes
      → 0 < c.depth → (t : Split) → t ≡ latest_of (stack c) → t.mark < c.count
  unfolding Acts
  fact_at_mark NoSolution g h p q deep t last = below_mark (in_order h) deep t last (g.under refl).grown
  fact_at_mark Strings {w = w} {c = c} {i = i} {y = y} g h p q deep t last = absurd (subst (Acts Strings b u i c.depth w c.count y) q p.acts)

  cut_state : {n i k m : ℕ} {outcome : Outcome} {w y : List ℤ} {c : code.Branch} {known : Known} {a : Action}
      → Going b s NoSolution n outcome w c known i k
      → Stepped b s NoSolution w c i m y a
      → a ≡ Closes
      → (x : List ℤ) (d : code.Branch) → CutsBack b s y c x d → state_of b u x d ≡ cut_back ◌++◌ (pending w c)
  cut_state {i = i} {y = y} {c = c} {a = a} h p q x d state =
      state ∙ ap (λ (l : Branch). cut_back ◌++◌ (waitings b u l (stack c))) (same_rows (in_order h) i y a p.acts q)

  module _ {all : Set} {n : ℕ} {outcome : Outcome} {w : List ℤ} {v : List Words} {c : code.Branch} {known : Known} {grounds : Grounds}
      {i k m : ℕ} {y : List ℤ} {a : Action} where
    -- one child begins
    module _ (f : ℕ) (q : a ≡ Extends f) (d : code.Branch) (ed : d.count ≡ f) (es : stack d ≡ stack c) where
      pub added_one : (claim : Claim)
          → Gathering claim all w v c known grounds i
          → Going b s claim n outcome w c known i k
          → Stepped b s claim w c i m y a
          → claim ≡ NoSolution
          → Added c.count d.count
      added_one NoSolution g h t e =
          let o = in_order h in
          added_begun (g.under refl) t 1 (extended o i y a t.acts f q).splits (omega arith) y d (entered_one o i y a t.acts f q d ed es).0
      added_one Strings g h t e = unkept e

      pub gathering_one : (claim : Claim) {rule : Rule} {set : Words}
          → Gathering claim all w v c known grounds i
          → Going b s claim n outcome w c known i k
          → Stepped b s claim w c i m y a
          → Rests claim rule w v c known grounds i m set
          → s.constraints ≡ length u.constraints
          → (v' : List Words) → (claim ≡ NoSolution → Filled v c.count d.count set v')
          → Gathering claim all y v' d known grounds (i + 6 + m)
      gathering_one NoSolution g h t r e v' filled =
          let o = in_order h in
          record {
            under = λ _.
                gathered_begun (g.under refl) t 1 (extended o i y a t.acts f q).splits (omega arith) y d (entered_one o i y a t.acts f q d ed es).0 r
                h.knows o e v' (filled refl);
          }
      gathering_one Strings g h t r e v' filled = record { under = unkept }

    -- the first of several
    module _ (f l : ℕ) (q : a ≡ SplitsUp f l) (d : code.Branch) (ed : d.count ≡ f) (es : stack d ≡ split c.count i 2 l ∷ stack c) where
      pub added_several : (claim : Claim)
          → Gathering claim all w v c known grounds i
          → Going b s claim n outcome w c known i k
          → Stepped b s claim w c i m y a
          → claim ≡ NoSolution
          → Added c.count d.count
      added_several NoSolution g h t e =
          let o = in_order h in
          let p = split_up o i y a t.acts f l q in
          added_begun (g.under refl) t l p.0.splits (omega (arith, p.1.two)) y d (entered_more o i y a t.acts f l q d ed es).0
      added_several Strings g h t e = unkept e

      pub gathering_several : (claim : Claim) {rule : Rule} {set : Words}
          → Gathering claim all w v c known grounds i
          → Going b s claim n outcome w c known i k
          → Stepped b s claim w c i m y a
          → Rests claim rule w v c known grounds i m set
          → s.constraints ≡ length u.constraints
          → (v' : List Words) → (claim ≡ NoSolution → Filled v c.count d.count set v')
          → Gathering claim all y v' d known grounds (i + 6 + m)
      gathering_several NoSolution g h t r e v' filled =
          let o = in_order h in
          let p = split_up o i y a t.acts f l q in
          record {
            under = λ _.
                gathered_begun (g.under refl) t l p.0.splits (omega (arith, p.1.two)) y d (entered_more o i y a t.acts f l q d ed es).0 r
                h.knows o e v' (filled refl);
          }
      gathering_several Strings g h t r e v' filled = record { under = unkept }

    -- the branch closes, and the next child of the last pending split begins
    module _ (q : a ≡ Closes) (deep : 0 < c.depth) (t : Split) (last : t ≡ latest_of (stack c)) (x : List ℤ) (d : code.Branch) (state : CutsBack b s y c x d) where
      pub added_next_child : (claim : Claim)
          → Gathering claim all w v c known grounds i
          → Going b s claim n outcome w c known i k
          → Stepped b s claim w c i m y a
          → claim ≡ NoSolution
          → Added t.mark d.count
      added_next_child NoSolution g h p e =
          let z = g.under refl in
          added_next z p.whole p.step (closing p q) (words_of (rest_set z p.whole p.step)) refl (in_order h) deep t last x d (cut_state h p q x d state)
      added_next_child Strings g h p e = unkept e

      pub gathering_next : (claim : Claim) {rule : Rule} {set : Words}
          → Gathering claim all w v c known grounds i
          → Going b s claim n outcome w c known i k
          → Stepped b s claim w c i m y a
          → Rests claim rule w v c known grounds i m set
          → s.constraints ≡ length u.constraints
          → (v' : List Words) → (claim ≡ NoSolution → Filled v t.mark d.count (words_at v t.mark) v')
          → (first : Known) → first.upto ≡ first_upto claim s.constraints
          → Gathering claim all x v' d (set_back known first t.mark) (grounds_back (with_closing grounds set) known.upto t.mark) (i + 6 + m)
      gathering_next NoSolution {set = set} g h p r e v' filled first up =
          let offer = closing p q in
          let z = g.under refl in
          record {
            under = λ _.
                subst (λ (j : ℕ). Gathered all x v' d (set_back known first t.mark) (grounds_back (with_closing grounds set) known.upto t.mark) (i + 6 + j)) (sym p.sized)
                (gathered_next z p.whole p.step offer set (set_rests z p r [] offer) (in_order h) deep t last x d (cut_state h p q x d state) v' (filled refl) first up e);
          }
      gathering_next Strings g h p r e v' filled first up = record { under = unkept }

  -- or it was the last: all is gathered
  pub gathering_all : (claim : Claim) {all : Set} {rule : Rule} {w : List ℤ} {v : List Words} {c : code.Branch} {known : Known} {grounds : Grounds} {i m : ℕ} {set : Words}
      {y : List ℤ} {a : Action}
      → Gathering claim all w v c known grounds i
      → Stepped b s claim w c i m y a
      → Rests claim rule w v c known grounds i m set
      → a ≡ Closes
      → stack c ≡ []
      → union_of grounds.core set ≡ words_of all
  unfolding Acts
  gathering_all NoSolution {set = set} g p r q last =
      let offer = closing p q in
      let z = g.under refl in
      gathered_all z p.whole p.step offer set (set_rests z p r [] offer) last
  gathering_all Strings {w = w} {c = c} {i = i} {y = y} g p r q last = absurd (subst (Acts Strings b u i c.depth w c.count y) q p.acts)
