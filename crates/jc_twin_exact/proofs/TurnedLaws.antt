-- One turn at an instruction: which branch it takes, and where that leads.
use Rattle.std.proofs.Common.{◌≡◌, ◌⊎◌, inl, inr, ℕ, ℤ, ◌+◌, true, false, List, Option, Some, None, nat_eq, refl, sym, ap, ◌∙◌, subst, if◌then◌else◌}
use Rattle.std.specs.Prelude.{⊤, slice_get, option_and_then, Contains}
use Rattle.std.proofs.lemmas.Option.{none-some, same_Some}
use Rattle.jc_methods.specs.Opcode as opcode
use Rattle.jc_methods.specs.Flow.{flow_of}
use Rattle.jc_methods.specs.declared.insn.Insn.{Insn}
use Rattle.jc_methods.specs.declared.insn.Insn.TheVariants as insns
use Rattle.jc_methods.specs.declared.insn.Flow.{Flow}
use Rattle.jc_methods.specs.declared.insn.Flow.TheVariants as flows
use Rattle.jc_methods.specs.declared.insn.Arm.{Arm}
use Rattle.jc_methods.specs.declared.body.Body.{Body}
use Rattle.jc_methods.specs.declared.body.What.{What}
use Rattle.jc_methods.proofs.ByFlowLaws.{insn_by}
use Rattle.jc_programs.specs.declared.program.Program.{Program}
use Rattle.jc_programs.specs.declared.program.Linked.{Linked}
use Rattle.jc_programs.specs.declared.program.ProbeInit.{ProbeInit}
use Rattle.jc_programs.specs.declared.run_end.Entry.{Entry}
use Rattle.jc_programs.specs.Members.{class_at}
use Rattle.jc_plan.specs.declared.branch.Branch.{Branch}
use Rattle.jc_plan.specs.Edges.{branches, sequence}
use Rattle.jc_plan.specs.Leading.{LeadsTo}
use Rattle.jc_plan.specs.Chosen.{Outcome, one_way, condition, key, chosen_by, chosen, onward_by, onward}
use Rattle.jc_plan.proofs.ChosenLaws.{chosen_listed, chosen_leads}
use Rattle.jc_machine_model.specs.Values.{Value, probes}
use Rattle.jc_machine_model.specs.World.{Frame, Shared}
use Rattle.jc_machine_model.specs.Operations.{Operation, tests, jumps, indexes, matches, invokes, returns, returns_nothing, throws_top, outside}
use Rattle.jc_machine_model.specs.Results.{Result, goes, hits, calls, leaves, raises, throws, gets_stuck}
use Rattle.jc_machine_model.specs.Jumps.{Tested, test_of}
use Rattle.jc_machine_model.specs.Profile.{Location, init_of, given_in, operation_of}
use Rattle.jc_machine_model.specs.Perform.{perform}
use Rattle.jc_machine_model.specs.Step.{LocatedInsn, located_in_body, located_in_class, located}
use Rattle.jc_machine_model.specs.Taken.{outcome_of_test, outcome_of}
use Rattle.jc_twin_exact.proofs.ValueLaws.{HoldsOfOthers, InSlot, InSlots, InStatics}
use Rattle.jc_twin_exact.proofs.ResultLaws.{Leads, MayRaise, IsReturn, IsCall, InFrame, Went, Comes, comes}
use Rattle.jc_twin_exact.proofs.OperationLaws.{IsPlain, IsExit, IsTest, IsSwitch, IsGoto, Does, does}

-- ---- branches

-- where control goes on a branch is chosen
pub chosen_there : (i : ℕ) (insn : Insn) (outcome : Outcome) (q : ℕ) → onward i insn outcome ≡ Some q
    → (x : Branch) × (chosen i insn outcome ≡ Some x) × (x.at ≡ i) × LeadsTo x q
chosen_there i insn outcome q e =
    let c = by (flow_of insn) outcome e in
    let l = chosen_leads i insn outcome c.0 c.1 in
    (c.0, c.1, l.0, l.1 ∙ e)
  where
    by : (flow : Flow) (outcome : Outcome) → onward_by flow i insn outcome ≡ Some q → (x : Branch) × (chosen_by flow i insn outcome ≡ Some x)
    by flows.GoesOn one_way e = (_, refl)
    by flows.GoesOn (condition b) e = absurd (none-some q e)
    by flows.GoesOn (key k) e = absurd (none-some q e)
    by flows.Branches one_way e = absurd (none-some q e)
    by flows.Branches (condition b) e = (_, refl)
    by flows.Branches (key k) e = absurd (none-some q e)
    by flows.Jumps one_way e = (_, refl)
    by flows.Jumps (condition b) e = absurd (none-some q e)
    by flows.Jumps (key k) e = absurd (none-some q e)
    by flows.Switches one_way e = absurd (none-some q e)
    by flows.Switches (condition b) e = absurd (none-some q e)
    by flows.Switches (key k) e = (_, refl)
    by flows.Returns outcome e = absurd (none-some q e)
    by flows.Throws outcome e = absurd (none-some q e)

-- the sequence of an instruction that goes on is one of the body's branches
pub sequence_listed : (b : Body) (i : ℕ) (insn : Insn) → slice_get b.code i ≡ Some insn → flow_of insn ≡ flows.GoesOn → Contains (branches b.code) (sequence i)
sequence_listed b i insn here e = chosen_listed b i insn one_way (sequence i) here (ap (λ w. chosen_by w i insn one_way) e)

-- ---- where instructions lead

pub next_onward : (insn : Insn) (i : ℕ) (st : List Value) → flow_of insn ≡ flows.GoesOn → onward i insn (outcome_of insn st) ≡ Some (i + 1)
next_onward (insns.Simple op) i st e = ap (λ w. onward_by w i (insns.Simple op) one_way) e
next_onward (insns.Jump op to) i st e = absurd (insn_by (insns.Jump op to) e)
next_onward (insns.Table low default arms) i st e = cc
next_onward (insns.Lookup default arms) i st e = cc
next_onward insn i st e = refl

pub test_onward : (op to i : ℕ) (st : List Value) (t : Tested) → nat_eq op opcode.goto ≡ false → test_of op st ≡ Some t
    → onward i (insns.Jump op to) (outcome_of (insns.Jump op to) st) ≡ Some (if t.jumps then to else i + 1)
test_onward op to i st t e h =
    ap (λ b. onward_by (if b then flows.Jumps else flows.Branches) i (insns.Jump op to) (if b then one_way else outcome_of_test (test_of op st))) e
    ∙ ap (λ o. onward_by flows.Branches i (insns.Jump op to) (outcome_of_test o)) h

pub goto_onward : (op to i : ℕ) (st : List Value) → nat_eq op opcode.goto ≡ true → onward i (insns.Jump op to) (outcome_of (insns.Jump op to) st) ≡ Some to
goto_onward op to i st e =
    ap (λ b. onward_by (if b then flows.Jumps else flows.Branches) i (insns.Jump op to) (if b then one_way else outcome_of_test (test_of op st))) e

-- ---- operations

plain_leads : (op : Operation) (st : List Value) (i q : ℕ) → IsPlain op → Leads op st i q → q ≡ i + 1
plain_leads (tests op to) st i q h l = absurd h
plain_leads (jumps to) st i q h l = absurd h
plain_leads (indexes low d arms) st i q h l = absurd h
plain_leads (matches d arms) st i q h l = absurd h
plain_leads (returns c type) st i q h l = absurd h
plain_leads returns_nothing st i q h l = absurd h
plain_leads throws_top st i q h l = absurd h
plain_leads outside st i q h l = absurd l
plain_leads other st i q h l = l

plain_stays : (op : Operation) → IsPlain op → IsReturn op → ⊥
plain_stays (returns c type) h l = h
plain_stays returns_nothing h l = h
plain_stays _ h l = l

exit_leads : (op : Operation) (st : List Value) (i q : ℕ) → IsExit op → Leads op st i q → ⊥
exit_leads (returns c type) st i q h l = l
exit_leads returns_nothing st i q h l = l
exit_leads outside st i q h l = l
exit_leads _ st i q h l = h

exit_calls : (op : Operation) → IsExit op → IsCall op → ⊥
exit_calls (invokes callee ps n) h l = h
exit_calls _ h l = l

exit_raises : (op : Operation) → IsExit op → MayRaise op → ⊥
exit_raises (returns c type) h l = l
exit_raises returns_nothing h l = l
exit_raises outside h l = l
exit_raises _ h l = h

-- ---- results

module _ (V : Value → Type 0) where
  pub record Goes (insn : Insn) (s : Shared) (f : Frame) (s' : Shared) (g : Frame) : Type 0 where
    pub method : g.method ≡ f.method
    pub onward : onward f.place insn (outcome_of insn f.stack) ≡ Some g.place
    pub raised : s'.raised ≡ s.raised
    pub statics : InStatics V s'.statics
    pub values : InFrame V g

  pub record Calls (insn : Insn) (f : Frame) (locals : List (Option Value)) (g : Frame) : Type 0 where
    pub method : g.method ≡ f.method
    pub place : g.place ≡ f.place
    pub flow : flow_of insn ≡ flows.GoesOn
    pub arguments : InSlots V locals
    pub values : InFrame V g

  abbrev pub MayThrow : Insn → Type 0
  MayThrow insn = (flow_of insn ≡ flows.GoesOn) ⊎ (flow_of insn ≡ flows.Throws)

  abbrev pub Turned : Insn → Shared → Frame → Result → Type 0
  Turned insn s f (goes s' g) = Goes insn s f s' g
  Turned insn s f (hits class id g) = (count : ℕ) × V (probes class count)
  Turned insn s f (calls callee locals g) = Calls insn f locals g
  Turned insn s f (leaves v) = InSlot V v × (flow_of insn ≡ flows.Returns)
  Turned insn s f (raises c) = MayThrow insn
  Turned insn s f (throws c v) = V v × MayThrow insn
  Turned insn s f gets_stuck = ⊤

  module _ (s : Shared) (f : Frame) where
    goes_on : (insn : Insn) (op : Operation) (s' : Shared) (g : Frame) → Went V op s f s' g → onward f.place insn (outcome_of insn f.stack) ≡ Some g.place
        → Goes insn s f s' g
    goes_on insn op s' g w e = record { method = w.method; onward = e; raised = w.raised; statics = w.statics; values = w.values }

    plain_turned : (insn : Insn) → flow_of insn ≡ flows.GoesOn → (op : Operation) → IsPlain op → (r : Result) → Comes V op s f r → Turned insn s f r
    plain_turned insn e op h (goes s' g) w =
        goes_on insn op s' g w (next_onward insn f.place f.stack e ∙ ap Some (sym (plain_leads op f.stack f.place g.place h w.leads)))
    plain_turned insn e op h (hits class id g) w = w
    plain_turned insn e op h (calls callee locals g) w =
        record { method = w.method; place = w.place; flow = e; arguments = w.arguments; values = w.values }
    plain_turned insn e op h (leaves v) w = absurd (plain_stays op h w.1)
    plain_turned insn e op h (raises c) w = inl e
    plain_turned insn e op h (throws c v) w = (w.0, inl e)
    plain_turned insn e op h gets_stuck w = tt

    test_turned : (o to : ℕ) → nat_eq o opcode.goto ≡ false → (r : Result) → Comes V (tests o to) s f r → Turned (insns.Jump o to) s f r
    test_turned o to e (goes s' g) w =
        let l = w.leads in
        goes_on (insns.Jump o to) (tests o to) s' g w (test_onward o to f.place f.stack l.0 e l.1 ∙ ap Some (sym l.2))
    test_turned o to e (hits class id g) w = w
    test_turned o to e (calls callee locals g) w = absurd w.call
    test_turned o to e (leaves v) w = absurd w.1
    test_turned o to e (raises c) w = absurd w
    test_turned o to e (throws c v) w = absurd w.1
    test_turned o to e gets_stuck w = tt

    goto_turned : (o to : ℕ) → nat_eq o opcode.goto ≡ true → (r : Result) → Comes V (jumps to) s f r → Turned (insns.Jump o to) s f r
    goto_turned o to e (goes s' g) w =
        goes_on (insns.Jump o to) (jumps to) s' g w (goto_onward o to f.place f.stack e ∙ ap Some (sym w.leads))
    goto_turned o to e (hits class id g) w = w
    goto_turned o to e (calls callee locals g) w = absurd w.call
    goto_turned o to e (leaves v) w = absurd w.1
    goto_turned o to e (raises c) w = absurd w
    goto_turned o to e (throws c v) w = absurd w.1
    goto_turned o to e gets_stuck w = tt

    index_turned : (low : ℤ) (d : ℕ) (arms : List ℕ) (r : Result) → Comes V (indexes low d arms) s f r → Turned (insns.Table low d arms) s f r
    index_turned low d arms (goes s' g) w =
        let l = w.leads in
        goes_on (insns.Table low d arms) (indexes low d arms) s' g w
        (ap (λ st. onward f.place (insns.Table low d arms) (outcome_of (insns.Table low d arms) st)) l.2 ∙ ap Some (sym l.3))
    index_turned low d arms (hits class id g) w = w
    index_turned low d arms (calls callee locals g) w = absurd w.call
    index_turned low d arms (leaves v) w = absurd w.1
    index_turned low d arms (raises c) w = absurd w
    index_turned low d arms (throws c v) w = absurd w.1
    index_turned low d arms gets_stuck w = tt

    match_turned : (d : ℕ) (arms : List Arm) (r : Result) → Comes V (matches d arms) s f r → Turned (insns.Lookup d arms) s f r
    match_turned d arms (goes s' g) w =
        let l = w.leads in
        goes_on (insns.Lookup d arms) (matches d arms) s' g w
        (ap (λ st. onward f.place (insns.Lookup d arms) (outcome_of (insns.Lookup d arms) st)) l.2 ∙ ap Some (sym l.3))
    match_turned d arms (hits class id g) w = w
    match_turned d arms (calls callee locals g) w = absurd w.call
    match_turned d arms (leaves v) w = absurd w.1
    match_turned d arms (raises c) w = absurd w
    match_turned d arms (throws c v) w = absurd w.1
    match_turned d arms gets_stuck w = tt

    exit_turned : (insn : Insn) → flow_of insn ≡ flows.Returns → (op : Operation) → IsExit op → (r : Result) → Comes V op s f r → Turned insn s f r
    exit_turned insn e op h (goes s' g) w = absurd (exit_leads op f.stack f.place g.place h w.leads)
    exit_turned insn e op h (hits class id g) w = w
    exit_turned insn e op h (calls callee locals g) w = absurd (exit_calls op h w.call)
    exit_turned insn e op h (leaves v) w = (w.0, e)
    exit_turned insn e op h (raises c) w = absurd (exit_raises op h w)
    exit_turned insn e op h (throws c v) w = absurd (exit_raises op h w.1)
    exit_turned insn e op h gets_stuck w = tt

    throw_turned : (insn : Insn) → flow_of insn ≡ flows.Throws → (r : Result) → Comes V throws_top s f r → Turned insn s f r
    throw_turned insn e (goes s' g) w = absurd w.leads
    throw_turned insn e (hits class id g) w = w
    throw_turned insn e (calls callee locals g) w = absurd w.call
    throw_turned insn e (leaves v) w = absurd w.1
    throw_turned insn e (raises c) w = inr e
    throw_turned insn e (throws c v) w = (w.0, inr e)
    throw_turned insn e gets_stuck w = tt

    by_test : (insn : Insn) (op : Operation) → IsTest insn op → (r : Result) → Comes V op s f r → Turned insn s f r
    by_test (insns.Jump o to) op h r w = test_turned o to h.1 r (subst (λ x. Comes V x s f r) h.0 w)
    by_test _ op h r w = absurd h

    by_goto : (insn : Insn) (op : Operation) → IsGoto insn op → (r : Result) → Comes V op s f r → Turned insn s f r
    by_goto (insns.Jump o to) op h r w = goto_turned o to h.1 r (subst (λ x. Comes V x s f r) h.0 w)
    by_goto _ op h r w = absurd h

    by_switch : (insn : Insn) (op : Operation) → IsSwitch insn op → (r : Result) → Comes V op s f r → Turned insn s f r
    by_switch (insns.Table low d arms) op h r w = index_turned low d arms r (subst (λ x. Comes V x s f r) h w)
    by_switch (insns.Lookup d arms) op h r w = match_turned d arms r (subst (λ x. Comes V x s f r) h w)
    by_switch _ op h r w = absurd h

    by_flow : (flow : Flow) (insn : Insn) (op : Operation) → flow_of insn ≡ flow → Does flow insn op → (r : Result) → Comes V op s f r → Turned insn s f r
    by_flow flows.GoesOn insn op e h r w = plain_turned insn e op h r w
    by_flow flows.Branches insn op e h r w = by_test insn op h r w
    by_flow flows.Jumps insn op e h r w = by_goto insn op h r w
    by_flow flows.Switches insn op e h r w = by_switch insn op h r w
    by_flow flows.Returns insn op e h r w = exit_turned insn e op h r w
    by_flow flows.Throws insn op e h r w = throw_turned insn e r (subst (λ x. Comes V x s f r) h w)

  -- ---- at a frame

  module _ (hold : HoldsOfOthers V) (program : Program) (s : Shared) (f : Frame) (values : InFrame V f) (statics : InStatics V s.statics) where
    pub turned : (at : Location) (insn : Insn) → ((init : ProbeInit) → init_of at ≡ Some init → V (probes at.class init.count))
        → ((what : Option What) (init : ProbeInit) → given_in at what ≡ Some init → V (probes at.class init.count))
        → Turned insn s f (perform (operation_of program at insn) s f)
    turned at insn fetched given =
        let d = does V hold program at fetched given insn in
        by_flow s f (flow_of insn) insn (operation_of program at insn) refl d.0 (perform (operation_of program at insn) s f)
        (comes V hold s f values statics (operation_of program at insn) d.1)

-- ---- where frames stand

pub record Standing (program : Program) (method : Entry) (place : ℕ) (i : LocatedInsn) : Type 0 where
  pub class : Linked
  pub class_is : slice_get program.classes method.class ≡ Some class
  pub body : Body
  pub body_is : slice_get class.bodies method.method ≡ Some body
  pub insn_is : slice_get body.code place ≡ Some i.insn
  pub at_is : i.at ≡ record { class = method.class; linked = class; body = body; place = place }

pub stands : (program : Program) (method : Entry) (place : ℕ) (i : LocatedInsn) → located program method place ≡ Some i → Standing program method place i
stands program method place i e = by (class_at program method.class) refl e
  where
    by_insn : (c : Linked) (b : Body) → slice_get program.classes method.class ≡ Some c → slice_get c.bodies method.method ≡ Some b
        → (o : Option Insn) → slice_get b.code place ≡ o → located_in_body method.class c place b o ≡ Some i → Standing program method place i
    by_insn c b h k None l e = absurd (none-some i e)
    by_insn c b h k (Some insn) l e =
        let same = same_Some (record { at = record { class = method.class; linked = c; body = b; place = place }; insn = insn }) i e in
        record {
          class = c;
          class_is = h;
          body = b;
          body_is = k;
          insn_is = l ∙ ap (λ (x : LocatedInsn). Some x.insn) same;
          at_is = sym (ap (λ (x : LocatedInsn). x.at) same);
        }

    by_body : (c : Linked) → slice_get program.classes method.class ≡ Some c → (o : Option Body) → slice_get c.bodies method.method ≡ o
        → located_in_class method.class place c o ≡ Some i → Standing program method place i
    by_body c h None k e = absurd (none-some i e)
    by_body c h (Some b) k e = by_insn c b h k (slice_get b.code place) refl e

    by : (o : Option Linked) → slice_get program.classes method.class ≡ o
        → option_and_then (λ (c : Linked). located_in_class method.class place c (slice_get c.bodies method.method)) o ≡ Some i
        → Standing program method place i
    by None h e = absurd (none-some i e)
    by (Some c) h e = by_body c h (slice_get c.bodies method.method) refl e
