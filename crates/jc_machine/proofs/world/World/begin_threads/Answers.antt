use Rattle.std.proofs.Common.{◌≡◌, ◌<◌, ◌∷◌, ◌++◌, [], List, length, take, slice_index_or, arith, sym, ap, ◌∙◌, subst}
use Rattle.std.proofs.lemmas.List.{length-set}
use Rattle.std.specs.Global.{Vec}
use Rattle.jc_programs.specs.declared.run_end.Entry.{Entry}
use Rattle.jc_machine_code.specs.Prepared.{IsPrepared}
use Rattle.jc_machine_model.specs.World.{Thread}
use Rattle.jc_machine_model.specs.Begin.{first_thread, first_threads}
use Rattle.jc_machine.specs.declared.integral_fields.IntegralField.{IntegralField}
use Rattle.jc_machine.specs.Threads.{thread_of, threads_of}
use Rattle.jc_machine.specs.FirstThreads.{BeginsWith}
use Rattle.jc_region.specs.Memory.{allocation_of}
use Rattle.jc_machine_turn.specs.Contents.{SharedSeen}
use Rattle.jc_machine.specs.Machines.{Machine}
use Rattle.jc_machine.specs.Kept.{memory_of}
use Rattle.jc_machine.proofs.MachineLaws.{memories_set}
use Rattle.jc_machine.proofs.FirstLaws.{as_many_entries, thread_begins, first_more, first_all}
use Rattle.jc_machine.proofs.ThreadLaws.{threads_of-more}
use Rattle.jc_machine.proofs.world.World.begin_threads.Goals as goal

pub bounds-entries-k : goal.bounds-entries-k
bounds-entries-k c = let many = as_many_entries c.args.program.now c.args.threads.now c.args.entries.now c.requires.entries in omega (arith, many)

pub begin_thread-requires : goal.begin_thread-requires
begin_thread-requires c =
    let program = c.args.program.now in
    let prepared = c.beginning.self-inside.prepared in
    let k = c.beginning.k in
    let entry : Entry = slice_index_or c.args.entries.now k (record { class = 0; method = 0 }) in
    let is : IsPrepared program prepared =
    subst (IsPrepared program) (sym (c.beginning.invariant.prepared ∙ ap (λ (m : Machine). m.prepared) c.self.view_is)) c.requires.prepared in (
      program,
      subst (BeginsWith program prepared entry) (sym c.as_slice-numbers.ensures)
          (thread_begins program prepared c.args.threads.now c.args.entries.now k c.index-threads-k.result (record { class = 0; method = 0 }) c.requires.program
          is c.requires.entries c.beginning-test.true),
    )

pub beginning-preserved : goal.beginning-preserved
beginning-preserved c =
    let program = c.args.program.now in
    let prepared = c.beginning.self-inside.prepared in
    let k = c.beginning.k in
    let threads = c.args.threads.now in
    let entries = c.args.entries.now in
    let none : Entry = record { class = 0; method = 0 } in
    let entry : Entry = slice_index_or entries k none in
    let firsts = first_threads program threads entries in
    let most = c.requires.few.1 in
    let is : IsPrepared program prepared =
    subst (IsPrepared program) (sym (c.beginning.invariant.prepared ∙ ap (λ (m : Machine). m.prepared) c.self.view_is)) c.requires.prepared in
    let begins = subst (BeginsWith program prepared entry) (sym c.as_slice-numbers.ensures)
    (thread_begins program prepared threads entries k c.index-threads-k.result none c.requires.program is c.requires.entries c.beginning-test.true) in
    let begun : thread_of c.begin_thread.result c.begin_thread.new.frames
    ≡ first_thread program entry (slice_index_or threads k c.index-threads-k.result).args =
    c.begin_thread.ensures.thread program begins ∙ ap (first_thread program entry) c.as_slice-numbers.ensures in
    let in_ends : k < length c.beginning.self-inside.ends = let many = c.beginning.invariant.ends in omega (arith, many, most) in
    let in_stacks : k < length c.beginning.self-inside.stacks.items = let many = c.beginning.invariant.stacks in omega (arith, many, most) in
    record {
      begun = threads_of-more c.beginning.self-inside.ends c.beginning.self-inside.stacks.items k c.begin_thread.result c.begin_thread.new.frames in_ends
          in_stacks
          ∙ (ap (λ (ts : List Thread). ts ++ thread_of c.begin_thread.result c.begin_thread.new.frames ∷ []) c.beginning.invariant.begun
          ∙ (ap (λ (t : Thread). take k firsts ++ t ∷ []) begun
          ∙ sym (first_more program prepared threads entries k c.index-threads-k.result none c.requires.program is c.requires.entries c.beginning-test.true)));
      ends = length-set c.beginning.self-inside.ends k c.begin_thread.result ∙ c.beginning.invariant.ends;
      prepared = c.beginning.invariant.prepared;
      fields = c.beginning.invariant.fields;
      shared = c.beginning.invariant.shared;
      stacks = length-set c.beginning.self-inside.stacks.items k c.begin_thread.new.frames ∙ c.beginning.invariant.stacks;
      place = c.beginning.invariant.place;
      frames = memories_set c.beginning.self-inside.stacks.items k c.index_mut.result.now c.begin_thread.new.frames c.index_mut.ensures.value
          c.begin_thread.ensures.memory ∙ c.beginning.invariant.frames;
    }

pub returns : goal.returns
returns c =
    let program = c.args.program.now in
    let threads = c.args.threads.now in
    let inside = c.beginning.self-inside in
    let all : length threads ≡ c.beginning.k = omega arith in
    let begun : threads_of (take (length threads) inside.ends) inside.stacks.items ≡ first_threads program threads c.args.entries.now =
    ap (λ n. threads_of (take n inside.ends) inside.stacks.items) all
    ∙ (c.beginning.invariant.begun ∙ first_all program threads c.args.entries.now c.beginning.k c.requires.entries c.beginning-test.false) in
    let prepared = c.beginning.invariant.prepared ∙ ap (λ (m : Machine). m.prepared) c.self.view_is in
    let fields = ap (λ (f : Vec IntegralField). f.items) c.beginning.invariant.fields ∙ ap (λ (m : Machine). m.fields) c.self.view_is in
    let shared = ap (λ (s : SharedSeen). s.content) c.beginning.invariant.shared ∙ ap (λ (m : Machine). m.shared) c.self.view_is in
    let same : memory_of inside ≡ memory_of c.self.inside = λ i. record {
      fields = allocation_of (c.beginning.invariant.fields i);
      stacks = c.beginning.invariant.place i;
      frames = c.beginning.invariant.frames i;
      shared = (c.beginning.invariant.shared i).memory;
    } in
    let memory = same ∙ ap (λ (m : Machine). m.memory) c.self.view_is in
    λ i. record { prepared = prepared i; fields = fields i; threads = begun i; shared = shared i; memory = memory i }
