-- With no count risen and memory not refused all steps were made.
use Rattle.std.proofs.Common.{◌≡◌, ◌≢◌, ◌⊎◌, ℕ, List, Option, None, Some, inl, inr, sym, ◌∙◌, ap, subst, arith}
use Rattle.jc_command_work.specs.declared.status.Status.{Status}
use Rattle.jc_command_work.specs.declared.status.Status.TheVariants as status
use Rattle.jc_outside.specs.Outside.{Rose}
use Rattle.jc_command_work.specs.Step.{Rises, Outside, Counts, Landed, to_file, to_out, to_err, Call, to_read, to_list, to_write, after, grown, Broken, CountRose}
use Rattle.jc_command_work.specs.Part.{status_of, message_of, Command}
use Rattle.jc_command_work.specs.Ending.{SaysLast, IsWhole, IsCut, Ends, NoneRose}
use Rattle.jc_command_work.specs.OneWay.{OneWay, Work, IsWork}
use Rattle.jc_command_work.proofs.Prefix.{one_work}

-- a count that rose, and perhaps once more
rose_twice : (a b c : ℕ) → Rises a b → (c ≡ b) ⊎ Rises b c → Rose a c
rose_twice a b c rose (inl same) = subst (λ (n : ℕ). Rose a n) (sym same) rose.1
rose_twice a b c (le, rose) (inr (le', inr last)) = inr last
rose_twice a b c (le, rose) (inr (le', inl more)) = inl (omega (arith, le, more))

module _ (old new : Outside) (f f' : Counts) where
  -- the last message moves the count of `err` alone
  pub only_errs : (message : Option (List ℕ)) → SaysLast message old new f f' → (f'.reads ≡ f.reads) × (f'.writes ≡ f.writes) × (f'.outs ≡ f.outs) × ((f'.errs ≡ f.errs) ⊎ Rises f.errs f'.errs)
  only_errs None (same, is) = (ap (λ (c : Counts). c.reads) same, ap (λ (c : Counts). c.writes) same, ap (λ (c : Counts). c.outs) same, inl (ap (λ (c : Counts). c.errs) same))
  only_errs (Some text) says = by says.said
    where
      by : ((f' ≡ f) × (new ≡ record old { err = grown old.err text })) ⊎ (CountRose (to_write (to_err text)) f f' × Broken (λ _ bytes. bytes) old (to_write (to_err text)) new)
          → (f'.reads ≡ f.reads) × (f'.writes ≡ f.writes) × (f'.outs ≡ f.outs) × ((f'.errs ≡ f.errs) ⊎ Rises f.errs f'.errs)
      by (inl (same, is)) = (ap (λ (c : Counts). c.reads) same, ap (λ (c : Counts). c.writes) same, ap (λ (c : Counts). c.outs) same, inl (ap (λ (c : Counts). c.errs) same))
      by (inr ((rose, others), broken)) = (ap (λ (c : Counts). c.reads) others, ap (λ (c : Counts). c.writes) others, ap (λ (c : Counts). c.outs) others, inr rose)

some_rose : (call : Call) (f g f' : Counts) → CountRose call f g → (f'.reads ≡ g.reads) × (f'.writes ≡ g.writes) × (f'.outs ≡ g.outs) × ((f'.errs ≡ g.errs) ⊎ Rises g.errs f'.errs) → NoneRose f f' → ⊥
some_rose (to_read path) f g f' rose kept none = none.reads (rose_twice f.reads g.reads f'.reads rose.0 (inl kept.0))
some_rose (to_list folder) f g f' rose kept none = none.reads (rose_twice f.reads g.reads f'.reads rose.0 (inl kept.0))
some_rose (to_write (to_file path bytes)) f g f' rose kept none = none.writes (rose_twice f.writes g.writes f'.writes rose.0 (inl kept.1))
some_rose (to_write (to_out text)) f g f' rose kept none = none.outs (rose_twice f.outs g.outs f'.outs rose.0 (inl kept.2))
some_rose (to_write (to_err text)) f g f' rose kept none = none.errs (rose_twice f.errs g.errs f'.errs rose.0 kept.3)

module _ (landed : Landed) (command : Command) (old new : Outside) (f f' : Counts) (s : Status) where
  pub all_made : Ends landed command old new f f' s → NoneRose f f' → s ≢ status.Memory → IsWhole landed command old new f f' s
  all_made (inl whole) none not = whole
  all_made (inr (inl cut)) none not = absurd (some_rose cut.broke_off.call f cut.at f' cut.broke_off.rose (only_errs cut.stands new cut.at f' (message_of cut.end) cut.says) none)
  all_made (inr (inr memory)) none not = absurd (not memory.is)

  -- where contents are told, the writes and the status are those of the one work
  pub does_work : OneWay landed command old → (work : Work) → IsWork landed command old work → Ends landed command old new f f' s → NoneRose f f' → s ≢ status.Memory
      → (s ≡ status_of work.end) × SaysLast (message_of work.end) (after landed old work.steps) new f f'
  does_work way work is ends none not =
      let whole = all_made ends none not in
      let mine : Work = record { steps = whole.came.steps; end = whole.end } in
      let same = one_work landed command old way mine work (whole.came.comes, whole.came.fit) is in (
        whole.is ∙ ap (λ (v : Work). status_of v.end) same,
        subst (λ (v : Work). SaysLast (message_of v.end) (after landed old v.steps) new f f') same (subst (λ (w : Outside). SaysLast (message_of whole.end) w new f f') whole.came.stand whole.says),
      )

  -- Where contents are told, a run that broke off at no call ends as the work does, or for want of memory.
  pub ends_as_work : OneWay landed command old → (work : Work) → IsWork landed command old work → Ends landed command old new f f' s
      → (s ≡ status_of work.end) ⊎ (IsCut landed command old new f f' s ⊎ (s ≡ status.Memory))
  ends_as_work way work is (inl whole) =
      let mine : Work = record { steps = whole.came.steps; end = whole.end } in
      inl (whole.is ∙ ap (λ (v : Work). status_of v.end) (one_work landed command old way mine work (whole.came.comes, whole.came.fit) is))
  ends_as_work way work is (inr (inl cut)) = inr (inl cut)
  ends_as_work way work is (inr (inr memory)) = inr (inr memory.is)
