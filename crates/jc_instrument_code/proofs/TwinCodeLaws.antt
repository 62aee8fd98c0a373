-- The text of an instrumented method's Code attribute, from its parts.
use Rattle.std.proofs.Common.{◌≡◌, ℕ, List, [], ◌++◌, length, sym, ◌∙◌, ap}
use Rattle.std.specs.Prelude.{slice_index}
use Rattle.jc_bytes.specs.BigNumbers.{short, word}
use Rattle.jc_methods.specs.VerificationTypes.{Names}
use Rattle.jc_methods.specs.declared.body.FrameAt.{FrameAt}
use Rattle.jc_methods.specs.declared.probe_members.Fetch.{Fetch}
use Rattle.jc_methods.specs.declared.emitted.Emitted.{Emitted}
use Rattle.jc_class.specs.declared.class_file.Attribute.{Attribute}
use Rattle.jc_emit.specs.declared.tables.MovedTables.{MovedTables}
use Rattle.jc_layout.specs.LaidBody.{with_place}
use Rattle.jc_layout.specs.Layout.{chosen_text}
use Rattle.jc_layout.specs.declared.layouts.Laid.{Laid}
use Rattle.jc_layout.proofs.SpelledLaws.{placed_size}
use Rattle.jc_pool.specs.Pool.{PoolValue}
use Rattle.jc_instrument_code.specs.CodeText.{attribute_text, code_text, counted_text, row_text}
use Rattle.jc_instrument_code.specs.Given.{AreNamed, IsLaid}
use Rattle.jc_instrument_code.specs.LaidText.{laid_attributes, laid_text}
use Rattle.jc_instrument_code.specs.TwinCode.{offset_in, tables_in, chosen_frames, written_frames, twin_code}
use Rattle.jc_instrument_code.specs.declared.code.CodePlaces.{CodePlaces}
use Rattle.jc_instrument_code.proofs.CodeTextLaws.{code_text_parts}
use Rattle.jc_instrument_code.proofs.NamedLaws.{are_named}

pub laid_text_parts : (pool : PoolValue) (fetch : Fetch) (t : MovedTables) (l : Laid) (names : Names) (places : CodePlaces) (frames : List FrameAt)
    → (starts bytes : List ℕ) (size : ℕ) → starts ≡ l.starts → bytes ≡ l.code → size ≡ length l.code
    → (none sizes coded tabled new : List ℕ) → none ≡ [] → sizes ≡ none ++ (short t.max_stack ++ (short t.max_locals ++ word size))
    → coded ≡ sizes ++ with_place fetch places.giver places.array bytes → tabled ≡ coded ++ counted_text (row_text (slice_index starts)) t.handlers
    → new ≡ tabled ++ counted_text attribute_text (laid_attributes pool places names t starts frames)
    → new ≡ laid_text pool fetch places names t l frames
unfolding laid_text
laid_text_parts pool fetch t l names places frames starts bytes size starts_are bytes_are size_is none sizes coded tabled new empty head coded_is tabled_is new_is =
    let long : size ≡ length (with_place fetch places.giver places.array l.code) = size_is ∙ sym (placed_size fetch places.giver places.array l.code) in
    code_text_parts t.max_stack t.max_locals size (with_place fetch places.giver places.array l.code) (counted_text (row_text (slice_index l.starts)) t.handlers)
    (laid_attributes pool places names t l.starts frames) none sizes coded tabled new empty head long
    (coded_is ∙ ap (λ (b : List ℕ). sizes ++ with_place fetch places.giver places.array b) bytes_are)
    (tabled_is ∙ ap (λ (s : List ℕ). coded ++ counted_text (row_text (slice_index s)) t.handlers) starts_are)
    (new_is ∙ ap (λ (s : List ℕ). tabled ++ counted_text attribute_text (laid_attributes pool places names t s frames)) starts_are)

-- over the chosen layout and its frames it is the text of the twin
pub laid_text_is : (pool : PoolValue) (fetch : Fetch) (names : Names) (places : CodePlaces) (e : Emitted) (t : MovedTables) (l : Laid) (frames : List FrameAt)
    → t ≡ tables_in e → IsLaid e l → frames ≡ chosen_frames e → AreNamed pool e places
    → laid_text pool fetch places names t l frames ≡ twin_code pool fetch places.giver places.array places.frames names e
unfolding laid_text twin_code
laid_text_is pool fetch names places e t l frames tables laid are named =
    (λ k. code_text (tables k).max_stack (tables k).max_locals (with_place fetch places.giver places.array (laid.text k))
    (counted_text (row_text (slice_index (laid.starts k))) (tables k).handlers)
    (laid_attributes pool places names (tables k) (laid.starts k) (are k)))
    ∙ ap (λ (all : List Attribute). code_text e.max_stack e.max_locals (with_place fetch places.giver places.array (chosen_text e.code))
    (counted_text (row_text (offset_in e)) e.handlers) all) (are_named pool e places places.frames (written_frames names e) named)
