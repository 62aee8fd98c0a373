-- Frames are read exactly where the form spells them.
use Rattle.std.proofs.Common.{◌≡◌, ℕ, List, [], ◌∷◌, ◌++◌, Some, refl, sym, ◌∙◌, ap, arith}
use Rattle.jc_bytes.specs.Counted.{counted, counted_at}
use Rattle.byteorder.specs.Endian.{big_number}
use Rattle.jc_bytes.specs.Decoder.{IsBig, byte_at, number_at}
use Rattle.jc_bytes.proofs.DecoderLaws.{byte_takes, byte_again}
use Rattle.jc_bytes.specs.Grammar.{times, Agrees}
use Rattle.jc_bytes.specs.ItemForms.{number}
use Rattle.jc_bytes.specs.Parsing.{Parsed, Good, Bad, ◌>>=◌, item, times_at}
use Rattle.jc_bytes.proofs.CountedLaws.{agrees_number, agrees_counted}
use Rattle.jc_bytes.proofs.GrammarLaws.{agrees_nothing, agrees_item, agrees_followed, agrees_times, good_bad, bad_is}
use Rattle.jc_frames.specs.declared.items.TypeItem.TheVariants as types
use Rattle.jc_frames.specs.declared.items.FrameItem.TheVariants as frames
use Rattle.jc_frames.specs.declared.items.TypeForm.{TypeForm}
use Rattle.jc_frames.specs.declared.items.TypeForm.TheVariants as type_forms
use Rattle.jc_frames.specs.declared.items.FrameForm.{FrameForm}
use Rattle.jc_frames.specs.declared.items.FrameForm.TheVariants as frame_forms
use Rattle.jc_frames.specs.TableForm.{nowhere, type_form, type_behind, type_item, frame_form, frame_behind, frame_item}
use Rattle.jc_frames.specs.TableReading.{type_behind_at, type_at, frame_behind_at, frame_item_at}

agrees_byte : Agrees (number 1) (item byte_at)
agrees_byte = agrees_item (IsBig 1) byte_at takes again
  where
    number_is : (x : ℕ) → big_number 1 (x ∷ []) ≡ x
    number_is x = omega arith

    takes : (bytes : List ℕ) (x : ℕ) (left : List ℕ) → byte_at bytes ≡ Some (x, left) → (front : List ℕ) × (bytes ≡ front ++ left) × IsBig 1 front x
    takes bytes x left e = (x ∷ [], byte_takes bytes x left e, record { size = refl; value = number_is x })

    again : (front rest : List ℕ) (x : ℕ) → IsBig 1 front x → byte_at (front ++ rest) ≡ Some (x, rest)
    again [] rest x big = absurd (let e = big.size in omega (arith, e))
    again (y ∷ []) rest x big = byte_again y rest ∙ ap (λ (b : ℕ). Some (b, rest)) (sym (number_is y) ∙ big.value)
    again (y ∷ z ∷ front) rest x big = absurd (let e = big.size in omega (arith, e))

agrees_nowhere : {X : Type 0} → Agrees (nowhere {X = X}) (λ left. let p : Parsed X = Bad left in p)
agrees_nowhere {X} = record {
  good = λ bytes x left e. absurd (good_bad (sym e));
  again = λ front rest x text. absurd text;
  bad = λ bytes left e. sym (bad_is {X = X} bytes left e);
  fails = λ bytes left f. λ i. Bad (sym f i);
}

-- ---- verification types

behind_agrees : (form : TypeForm) → Agrees (type_behind form) (type_behind_at form)
behind_agrees (type_forms.Plain type) = agrees_nothing type
behind_agrees type_forms.WithClass = agrees_followed (number 2) _ (item (number_at 2)) (λ place left. Good (types.Object place) left) (agrees_number 2) (λ place. agrees_nothing (types.Object place))
behind_agrees type_forms.WithOffset = agrees_followed (number 2) _ (item (number_at 2)) (λ offset left. Good (types.Uninit offset) left)
    (agrees_number 2) (λ offset. agrees_nothing (types.Uninit offset))
behind_agrees type_forms.NoType = agrees_nowhere

pub type_agrees : Agrees type_item type_at
unfolding type_item type_at
type_agrees = agrees_followed (number 1) (λ tag. type_behind (type_form tag)) (item byte_at) (λ tag left. type_behind_at (type_form tag) left) agrees_byte (λ tag. behind_agrees (type_form tag))

types_agree : Agrees (counted type_item) (counted_at type_at)
types_agree = agrees_counted type_item type_at type_agrees

-- ---- frames

frame_behind_agrees : (form : FrameForm) → Agrees (frame_behind form) (frame_behind_at form)
frame_behind_agrees (frame_forms.Same delta) = agrees_nothing (frames.Same delta)
frame_behind_agrees (frame_forms.OneItem delta) =
    agrees_followed type_item _ type_at (λ type left. Good (frames.OneItem delta type) left) type_agrees (λ type. agrees_nothing (frames.OneItem delta type))
frame_behind_agrees frame_forms.OneItemFar =
    agrees_followed (number 2) _ (item (number_at 2)) (λ delta left. type_at left >>= λ type. Good (frames.OneItem delta type.0) type.1) (agrees_number 2) (λ delta.
    agrees_followed type_item _ type_at (λ type left. Good (frames.OneItem delta type) left) type_agrees (λ type. agrees_nothing (frames.OneItem delta type)))
frame_behind_agrees (frame_forms.Chop count) =
    agrees_followed (number 2) _ (item (number_at 2)) (λ delta left. Good (frames.Chop delta count) left) (agrees_number 2) (λ delta. agrees_nothing (frames.Chop delta count))
frame_behind_agrees frame_forms.SameFar =
    agrees_followed (number 2) _ (item (number_at 2)) (λ delta left. Good (frames.Same delta) left) (agrees_number 2) (λ delta. agrees_nothing (frames.Same delta))
frame_behind_agrees (frame_forms.Append count) =
    agrees_followed (number 2) _ (item (number_at 2)) (λ delta left. times_at count type_at left >>= λ added. Good (frames.Append delta added.0) added.1) (agrees_number 2) (λ delta.
    agrees_followed (times count type_item) _ (times_at count type_at) (λ added left. Good (frames.Append delta added) left)
    (agrees_times count type_item type_at type_agrees) (λ added. agrees_nothing (frames.Append delta added)))
frame_behind_agrees frame_forms.Full =
    agrees_followed (number 2) _ (item (number_at 2))
    (λ delta left. counted_at type_at left >>= λ locals.
    (counted_at type_at locals.1 >>= λ stack. Good (frames.Full delta locals.0 stack.0) stack.1)) (agrees_number 2) (λ delta.
    agrees_followed (counted type_item) _ (counted_at type_at) (λ locals left. counted_at type_at left >>= λ stack. Good (frames.Full delta locals stack.0) stack.1) types_agree (λ locals.
    agrees_followed (counted type_item) _ (counted_at type_at) (λ stack left. Good (frames.Full delta locals stack) left) types_agree (λ stack. agrees_nothing (frames.Full delta locals stack))))
frame_behind_agrees frame_forms.NoFrame = agrees_nowhere

pub frame_agrees : Agrees frame_item frame_item_at
unfolding frame_item frame_item_at
frame_agrees = agrees_followed (number 1) (λ tag. frame_behind (frame_form tag)) (item byte_at) (λ tag left. frame_behind_at (frame_form tag) left)
    agrees_byte (λ tag. frame_behind_agrees (frame_form tag))
