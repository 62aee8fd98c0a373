use Rattle.std.proofs.Common.{inl, [], ◌∷◌, refl, ◌∙◌, arith}
use Rattle.std.proofs.lemmas.Result.{err_from_is_err_and}
use Rattle.jc_bytes.proofs.OneTextLaws.{are_bytes}
use Rattle.jc_instrument.specs.Causes.{IsFirstCause}
use Rattle.jc_instrument.specs.Changing.{changing_causes}
use Rattle.jc_instrument.specs.ReadyClass.{making_causes}
use Rattle.jc_instrument.specs.RoomCauses.{HasFullPool}
use Rattle.jc_instrument.proofs.AnswerLaws.{said_more}
use Rattle.jc_instrument.proofs.CauseLaws.{first_behind, first_in_front, none_in_both}
use Rattle.jc_instrument.proofs.FullPoolLaws.{no_full_pool, one_probe_count}
use Rattle.jc_instrument.proofs.ReadyClassLaws.{ready_works}
use Rattle.jc_instrument.proofs.whole.changed.Goals as goal

pub returns-in_err-ready-clause-refused : goal.returns-in_err-ready-clause-refused
returns-in_err-ready-clause-refused c =
    let class = c.args.class in
    let id = c.args.id in
    let e = c.in_err-ready.field-0.0 in
    let r = err_from_is_err_and c.from_residual-in_err-ready.result c.from_residual-in_err-ready.ensures.1 in
    rw (r.1, r.2) (said_more (IsFirstCause (making_causes class)) (IsFirstCause (changing_causes id class)) e
    (λ refusal first. first_in_front (making_causes class) (HasFullPool id class ∷ []) refusal first) c.in_err-ready.ensures.refused)

pub returns-in_err-bytes-clause-refused : goal.returns-in_err-bytes-clause-refused
returns-in_err-bytes-clause-refused c =
    let class = c.args.class in
    let id = c.args.id in
    let e = c.in_err-bytes.field-0.0 in
    let r = err_from_is_err_and c.from_residual-in_err-bytes.result c.from_residual-in_err-bytes.ensures.1 in
    rw (r.1, r.2) (said_more (HasFullPool id class) (IsFirstCause (changing_causes id class)) e
    (λ refusal full. first_behind (making_causes class) (HasFullPool id class ∷ []) refusal c.in_ok-ready.ensures.ready.no_cause (inl full))
    c.in_err-bytes.ensures.refused)

pub returns-clause-changed : goal.returns-clause-changed
returns-clause-changed c =
    let class = c.args.class in
    let t = c.in_ok-bytes.ensures.text in
    let w = t.written in
    let r = c.in_ok-ready.ensures.ready in
    let v = ready_works c.named_class.new.names class c.in_ok-ready.field-0.ready r in
    record {
      id_is = refl;
      name = c.in_ok-ready.ensures.name;
      has = record {
        names = w.names;
        array = w.array;
        works = w.works;
        twin = t.twin;
        written = w.written;
        are_bytes = t.are_bytes;
        text = t.text;
        probes = v.count ∙ one_probe_count v.others w.names v.array w.array class v.works w.works v.are w.written.ready.are;
        changed = refl;
      };
      no_cause = none_in_both (making_causes class) (HasFullPool c.args.id class ∷ []) r.no_cause
          (no_full_pool c.args.id w.names w.array w.works class t.twin w.written, tt);
    }

pub named_class-requires-clause-text : goal.named_class-requires-clause-text
named_class-requires-clause-text c =
    let bytes = c.args.bytes.now in
    record { bytes = bytes; are = are_bytes bytes (λ i. omega (arith, c.type_inv.bytes i)); few = c.requires.few; text = c.requires.read }
