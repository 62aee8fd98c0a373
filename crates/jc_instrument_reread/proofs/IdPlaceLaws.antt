-- Each id of a body is pushed in its twin.
use Rattle.std.proofs.Common.{◌≡◌, ℕ, ◌+◌, ◌<◌, ◌≤◌, Bool, map, Some, ◌∙◌, ap}
use Rattle.std.specs.Prelude.{slice_get}
use Rattle.jc_methods.specs.WellMade.{IsCode}
use Rattle.jc_methods.specs.declared.body.Body.{Body}
use Rattle.jc_plan.specs.Probed.{id_if, id_of, probe_count, probe_of}
use Rattle.jc_plan.specs.declared.branch.Branch.{Branch}
use Rattle.jc_plan.proofs.OneIdLaws.{each_used}
use Rattle.jc_emit.specs.Items.{insn_of, twin_items}
use Rattle.jc_emit.specs.Marks.{TwinPlaces, push_by}
use Rattle.jc_emit.specs.Sizes.{TwinForm}
use Rattle.jc_emit.proofs.WholeLaws.{code_told}

-- a probed edge of the body has it, and so a probe
pub id_pushed : (b : Body) (first : ℕ) (form : TwinForm) (named : TwinPlaces) → IsCode b.code → (id : ℕ) → first ≤ id → id < first + probe_count b
    → (q : ℕ) × (slice_get (map (insn_of named b.arg_slots) (twin_items b first form)) q ≡ Some (push_by named.integer id))
id_pushed b first form named is_code id from below =
    let used = each_used b first id from below in
    let x : Branch = used.branch in
    let probed : probe_of b first x ≡ Some id =
    ap (λ (t : Bool). id_if t (id_of b first x)) used.probed ∙ ap Some used.has_id in
    let probe = (code_told b first form named is_code).nothing_else.probes (record { branch = x; listed = used.listed; id = id; probed = probed }) in
    (_, probe.number.insn_is)
