use Rattle.std.proofs.Common.{rules, ◌≡◌, Bool, true, List, Option, Some, None, refl, if◌then◌else◌, ◌∙◌, ap, sym}
use Rattle.jc_bytes.specs.Descriptor.{FieldType, Int}
use Rattle.jc_machine_model.specs.Values.{Value, int, is_of, stored_as}
use Rattle.jc_machine_model.specs.Results.{Result, leaves, gets_stuck}
use Rattle.jc_machine_model.specs.Calls.{returned_as, by_return}
use Rattle.jc_machine_numbers.specs.declared.narrowing.Narrowing.{Narrowing}
use Rattle.jc_machine_numbers.specs.Narrowings.{narrowing_of}
use Rattle.jc_machine_code.specs.Types.{computational, return_narrowing}
use Rattle.jc_machine_memory.specs.Values.{value_of}
use Rattle.jc_machine_turn.proofs.StackLaws.{top_one}
use Rattle.jc_machine_turn.proofs.calls.return_top.Goals as goal

kept_whole : (v : Value) → stored_as Int v ≡ v
kept_whole (int x) = refl
kept_whole _ = refl

returned : (narrowing : Narrowing) (v r : Value) (type : Option FieldType)
    → ((t : FieldType) → narrowing_of t ≡ narrowing → r ≡ stored_as t v) → return_narrowing type ≡ narrowing → r ≡ returned_as type v
returned narrowing v r None each is = each Int is ∙ kept_whole v
returned narrowing v r (Some t) each is = each t is

taken : (b : Bool) (r s : Result) → b ≡ true → (if b then r else s) ≡ r
taken b r s is = ap (λ (x : Bool). if x then r else s) is

pub returns-clause-result : goal.returns-clause-result
returns-clause-result c = λ type s is.
    let stack = c.args.frame.now.content.stack in
    let v = value_of c.in-Some.value in
    let fits : is_of (computational c.args.kind) v ≡ true = search rules in
    ap (λ (r : Value). leaves (Some r)) (returned c.args.narrowing v (value_of c.stored.result) type c.stored.ensures is)
    ∙ sym (ap (λ (st : List Value). by_return (computational c.args.kind) type st) (top_one stack v c.in-Some.ensures)
    ∙ taken (is_of (computational c.args.kind) v) _ gets_stuck fits)
