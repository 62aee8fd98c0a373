-- How a run ends, by what it did before its last message.
use Rattle.std.proofs.Common.{◌≡◌, ℕ, List, Option, None, Some, Ok, Err, inl, inr, refl, sym, ◌∙◌, ap, subst}
use Rattle.jc_command_work.specs.declared.status.Status.{Status}
use Rattle.jc_command_work.specs.declared.status.Status.TheVariants as status
use Rattle.jc_outside.specs.Outside.{FileMap, LastFailed, PutLeaves, PutCause}
use Rattle.jc_outside.specs.declared.sink.SinkFault.{SinkFault}
use Rattle.jc_command_work.specs.Step.{Outside, outside, Counts, counts, Landed}
use Rattle.jc_command_work.specs.Part.{End, done, message_of, stops, Command}
use Rattle.jc_command_work.specs.declared.stop.Stop.{Stop}
use Rattle.jc_command_work.specs.declared.stop.Stop.TheVariants as stops
use Rattle.jc_command_work.specs.Seen.{stop_seen}
use Rattle.jc_command_work.specs.Stopping.{message_seen, status_seen}
use Rattle.jc_command_work.specs.Texts.{cannot_read, cannot_write, cannot_write_output, fault_text}
use Rattle.jc_command_work.specs.Ending.{CameTo, Began, BrokeOff, Stops, Says, SaysLast, Reports, Ends}

module _ (landed : Landed) (command : Command) (old : Outside) (f : Counts) where
  pub ends_done : (new : Outside) (f' : Counts) → f' ≡ f → CameTo landed command old new (stops done) → Ends landed command old new f f' status.Done
  ends_done new f' same came = inl (record { end = done; stands = new; came = came; is = refl; says = (same, refl) })

  began : (new : Outside) (e : End) → CameTo landed command old new (stops e) → Began landed command old new
  began new e came = record { steps = came.steps; begun = came.begun; fit = came.fit; stand = came.stand }

  pub ends_stopped : (stop : Option End) (mid new : Outside) (g f' : Counts) (s : Status) → Stops landed command old mid f g stop → Reports stop mid new g f' s → Ends landed command old new f f' s
  ends_stopped None mid new g f' s (same, far) (is, kept, stay) =
      inr (inr (record { is = is; far = inl (kept ∙ same, subst (λ (w : Outside). Began landed command old w) (sym stay) far) }))
  ends_stopped (Some e) mid new g f' s (inl (same, came)) (inl (is, kept, stay)) =
      inr (inr (record { is = is; far = inl (kept ∙ same, subst (λ (w : Outside). Began landed command old w) (sym stay) (began mid e came)) }))
  ends_stopped (Some e) mid new g f' s (inl (same, came)) (inr (is, says)) =
      inl (record { end = e; stands = mid; came = came; is = is; says = subst (λ (c : Counts). SaysLast (message_of e) mid new c f') same says })
  ends_stopped (Some e) mid new g f' s (inr broke) (inl (is, kept, stay)) =
      inr (inr (record {
        is = is;
        far = inr (
          e,
          subst (λ (w : Outside). BrokeOff landed command old w f f' e) (sym stay)
              (subst (λ (c : Counts). BrokeOff landed command old mid f c e) (sym kept) broke),
        );
      }))
  ends_stopped (Some e) mid new g f' s (inr broke) (inr (is, says)) =
      inr (inl (record { end = e; stands = mid; at = g; broke_off = broke; is = is; says = says }))

pub was_said : (k : Option FileMap) (p : LastFailed) (out err err' : Option (List ℕ)) (r w o e e' : ℕ) (text : List ℕ) → PutLeaves err err' text (Ok tt) → PutCause e e' (Ok tt)
    → Says text (outside k p out err) (outside k p out err') (counts r w o e) (counts r w o e')
was_said k p out None err' r w o e e' text leaves cause = record { said = inl (ap (λ (n : ℕ). counts r w o n) cause, ap (λ (t : Option (List ℕ)). outside k p out t) leaves) }
was_said k p out (Some t) err' r w o e e' text leaves cause = record { said = inl (ap (λ (n : ℕ). counts r w o n) cause, ap (λ (t : Option (List ℕ)). outside k p out t) leaves) }

pub wasn't_said : (k : Option FileMap) (p : LastFailed) (out err err' : Option (List ℕ)) (r w o e e' : ℕ) (text : List ℕ) (fault : SinkFault) → PutLeaves err err' text (Err fault)
    → PutCause e e' (Err fault)
    → Says text (outside k p out err) (outside k p out err') (counts r w o e) (counts r w o e')
wasn't_said k p out None err' r w o e e' text fault leaves cause = record { said = inr ((cause, refl), (leaves, refl)) }
wasn't_said k p out (Some t) err' r w o e e' text fault leaves cause = record { said = inr ((cause, refl), (leaves, refl)) }

pub said_last : (message : Option (List ℕ)) (text said : List ℕ) (old new : Outside) (f f' : Counts) → Some text ≡ message → said ≡ text → Says said old new f f' → SaysLast message old new f f'
said_last message text said old new f f' is same says =
    subst (λ (m : Option (List ℕ)). SaysLast m old new f f') is (subst (λ (t : List ℕ). Says t old new f f') same says)

-- ---- the last message

pub reports_memory : (stop : Option End) (w : Outside) (f : Counts) → Reports stop w w f f status.Memory
reports_memory None w f = (refl, refl, refl)
reports_memory (Some end) w f = inl (refl, refl, refl)

some_none : (x : List ℕ) → Some x ≡ None → ⊥
some_none x e = cc

says_last : (text said : List ℕ) (old new : Outside) (f f' : Counts) → Some text ≡ Some said → Says text old new f f' → SaysLast (Some said) old new f f'
says_last text said old new f f' is says = subst (λ (m : Option (List ℕ)). SaysLast m old new f f') is says

pub reports_said : (stop : Stop) (text : List ℕ) (old new : Outside) (f f' : Counts) → Some text ≡ message_seen stop → Says text old new f f' → Reports (stop_seen stop) old new f f' (status_seen stop)
reports_said stops.Memory text old new f f' is says = absurd (some_none text is)
reports_said (stops.Read path) text old new f f' is says = inr (refl, says_last text (cannot_read path.now) old new f f' is says)
reports_said (stops.Write path) text old new f f' is says = inr (refl, says_last text (cannot_write path.now) old new f f' is says)
reports_said stops.Output text old new f f' is says = inr (refl, says_last text cannot_write_output old new f f' is says)
reports_said (stops.Refused file fault) text old new f f' is says = inr (refl, says_last text (fault_text file.now fault) old new f f' is says)
reports_said (stops.Clash fault line) text old new f f' is says = inr (refl, says_last text line.items old new f f' is says)
