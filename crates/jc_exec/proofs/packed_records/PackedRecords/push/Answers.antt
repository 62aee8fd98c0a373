use Rattle.std.proofs.Common.{◌≡◌, ◌++◌, ◌∷◌, [], ℕ, List, None, length, map, take, nat_eq, sym, ◌∙◌, ap, subst, arith}
use Rattle.std.specs.Map.{lookup}
use Rattle.jc_exec.specs.declared.hits.ClassHits.{ClassHits}
use Rattle.jc_exec.specs.Adding.{Entries}
use Rattle.indexmap.specs.IndexMap.{insert_entry}
use Rattle.jc_exec.specs.Packed.{packed}
use Rattle.jc_exec.specs.Rows.{hits_of}
use Rattle.jc_exec.specs.Store.{entries_of}
use Rattle.jc_exec.proofs.EntriesLaws.{absent}
use Rattle.jc_exec.proofs.PackedRecordLaws.{packed_as, packed_front, packed_ids, packed_more, put_last, last_entry}
use Rattle.jc_exec.proofs.RowLaws.{of_size, ids_front}
use Rattle.jc_exec.proofs.packed_records.PackedRecords.push.Goals as goal

pub push-requires : goal.push-requires
push-requires c =
    let bytes = c.self.inside.bytes.items in let ids = c.self.inside.ids in let rows = c.self.inside.rows.items in
    let cs = hits_of bytes ids rows in
    let known = c.self.invariant.known in
    let count : c.len.result ≡ length cs = omega (arith, c.len.ensures, of_size bytes ids rows known) in
    let own : c.truncate.new.self ≡ map (λ (d : ClassHits). d.id) cs = c.truncate.ensures ∙ ap (λ (n : ℕ). take n ids) count ∙ ids_front bytes ids rows known in
    absent c.truncate.new.self cs c.args.hits.now.id own (subst (λ (es : Entries). lookup (nat_eq c.args.hits.now.id) es ≡ None) (sym c.self.view_is) c.requires.none)

pub invariant_of-self-in_err-push-2 : goal.invariant_of-self-in_err-push-2
invariant_of-self-in_err-push-2 c =
    let bytes = c.self.inside.bytes.items in let ids = c.self.inside.ids in let rows = c.self.inside.rows.items in
    let front = take (length rows) ids in
    let text = c.args.hits.now.name ++ packed c.args.hits.now.bits in
    let count : c.len.result ≡ length rows = omega (arith, c.len.ensures) in
    let known : c.push.new.self ≡ front ++ c.args.hits.now.id ∷ [] =
    c.in_ok-push.ensures.ok ∙ ap (λ (l : List ℕ). l ++ c.args.hits.now.id ∷ []) (c.truncate.ensures ∙ ap (λ (n : ℕ). take n ids) count) in
    packed_as (bytes ++ text) c.put_text.new.bytes.items (front ++ c.args.hits.now.id ∷ []) c.push.new.self rows c.push-2.new.self.items
    c.in_ok-put_text.ensures.ok known c.in_err-push-2.ensures.items
    (packed_more bytes text (front ++ c.args.hits.now.id ∷ []) rows (packed_ids bytes front (c.args.hits.now.id ∷ []) rows (packed_front bytes ids rows c.self.invariant)))

pub invariant_of-self-2 : goal.invariant_of-self-2
invariant_of-self-2 c =
    let bytes = c.self.inside.bytes.items in let ids = c.self.inside.ids in let rows = c.self.inside.rows.items in
    let front = take (length rows) ids in
    let text = c.args.hits.now.name ++ packed c.args.hits.now.bits in
    let count : c.len.result ≡ length rows = omega (arith, c.len.ensures) in
    let known : c.push.new.self ≡ front ++ c.args.hits.now.id ∷ [] =
    c.in_ok-push.ensures.ok ∙ ap (λ (l : List ℕ). l ++ c.args.hits.now.id ∷ []) (c.truncate.ensures ∙ ap (λ (n : ℕ). take n ids) count) in
    packed_as (bytes ++ text) c.put_text.new.bytes.items (front ++ c.args.hits.now.id ∷ []) c.push.new.self _ c.push-2.new.self.items
    c.in_ok-put_text.ensures.ok known c.in_ok-push-2.ensures.items
    (put_last bytes ids rows c.self.invariant c.args.hits.now _ (omega (arith, c.len-from.ensures)) (omega (arith, c.len-2.ensures)) (omega (arith, c.len-3.ensures)))

pub returns : goal.returns
returns c =
    let bytes = c.self.inside.bytes.items in let ids = c.self.inside.ids in let rows = c.self.inside.rows.items in
    let hits = c.args.hits.now in
    let count : c.len.result ≡ length rows = omega (arith, c.len.ensures) in
    let known : c.push.new.self ≡ take (length rows) ids ++ hits.id ∷ [] =
    c.in_ok-push.ensures.ok ∙ ap (λ (l : List ℕ). l ++ hits.id ∷ []) (c.truncate.ensures ∙ ap (λ (n : ℕ). take n ids) count) in
    let none : lookup (nat_eq hits.id) (entries_of (hits_of bytes ids rows)) ≡ None =
    subst (λ (es : Entries). lookup (nat_eq hits.id) es ≡ None) (sym c.self.view_is) c.requires.none in
    record {
      ok = ap entries_of (λ i. hits_of (c.in_ok-put_text.ensures.ok i) (known i) (c.in_ok-push-2.ensures.items i))
          ∙ last_entry bytes ids rows c.self.invariant hits _ (omega (arith, c.len-from.ensures)) (omega (arith, c.len-2.ensures)) (omega (arith, c.len-3.ensures)) none
          ∙ ap (λ (es : Entries). insert_entry nat_eq es hits.id hits) c.self.view_is;
    }
