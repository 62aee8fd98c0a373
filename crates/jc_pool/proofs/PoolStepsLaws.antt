-- Filling the places of a pool, entry by entry.
use Rattle.std.proofs.Common.{◌≡◌, inl, inr, ℕ, zero, suc, ◌-◌, ◌<◌, ◌≤◌, Bool, false, List, [], ◌∷◌, ◌++◌, length, Option, Some, None, Err, nat_lt, refl, sym, ◌∙◌, ap, subst, arith, append_assoc, if◌then◌else◌}
use Rattle.std.proofs.lemmas.Bool.{cases_Bool, le-ltb}
use Rattle.std.proofs.lemmas.List.{append-nil, length-append}
use Rattle.jc_bytes.specs.Reader.{Reading}
use Rattle.jc_bytes.specs.Decoder.{SameEnd}
use Rattle.jc_bytes.specs.Decoder as decoder
use Rattle.jc_bytes.specs.Parsing.{Parsed, Good, Bad, ◌>>=◌, parsed_or, item, Parses}
use Rattle.jc_bytes.specs.declared.fail.Fail.{Fail}
use Rattle.jc_bytes.specs.declared.fail.Fail.TheVariants as fails
use Rattle.jc_bytes.specs.declared.refusal.Refusal.{Refusal}
use Rattle.jc_pool.specs.declared.entry.Entry.{Entry}
use Rattle.jc_pool.specs.Pool.{is_wide, width, slots_of, IsSmall, IsFilled, IsPool}
use Rattle.jc_pool.specs.EntryReading.{entry_at, narrow_only, narrow_at, fitting_at}
use Rattle.jc_pool.specs.PoolReading.{put_behind, places_at}

-- an entry that takes no more than so many places
abbrev fits_in : ℕ → Entry × List ℕ → Option (Entry × List ℕ)
fits_in n read = if nat_lt n (width read.0) then None else Some read

-- the entry, and the places behind it
abbrev by_size : Bool → ℕ → Entry × List ℕ → Parsed (List (Option Entry))
by_size wide n e = put_behind (if wide then Some e.0 ∷ None ∷ [] else Some e.0 ∷ []) (places_at (n - (if wide then 2 else 1)) e.1)

abbrev behind_entry : ℕ → Entry × List ℕ → Parsed (List (Option Entry))
behind_entry n e = by_size (is_wide e.0) n e

at_last : (left : List ℕ) (r : Option (Entry × List ℕ)) → (parsed_or left (decoder.◌>>=◌ r narrow_only) >>= λ e. Good (Some e.0 ∷ []) e.1)
    ≡ (parsed_or left (decoder.◌>>=◌ r (fits_in 1)) >>= behind_entry 1)
at_last left None = refl
at_last left (Some e) = elim (cases_Bool (is_wide e.0)) [
  | inl wide ↦ rw wide refl
  | inr narrow ↦ rw narrow (sym (ap (λ (b : Bool). by_size b 1 e) narrow))
]

before : (n : ℕ) (left : List ℕ) (r : Option (Entry × List ℕ))
    → (parsed_or left r >>= λ e. if is_wide e.0 then put_behind (Some e.0 ∷ None ∷ []) (places_at n e.1) else put_behind (Some e.0 ∷ []) (places_at (suc n) e.1))
    ≡ (parsed_or left (decoder.◌>>=◌ r (fits_in (suc (suc n)))) >>= behind_entry (suc (suc n)))
before n left None = refl
before n left (Some e) = elim (cases_Bool (is_wide e.0)) [
  | inl wide ↦
      let fits : nat_lt (suc (suc n)) 2 ≡ false = le-ltb (suc (suc n)) 2 (omega arith) in
      let size : suc (suc n) - 2 ≡ n = omega arith in
      rw (wide, fits) (sym (ap (λ (b : Bool). by_size b (suc (suc n)) e) wide ∙ ap (λ (k : ℕ). put_behind (Some e.0 ∷ None ∷ []) (places_at k e.1)) size))
  | inr narrow ↦
      let fits : nat_lt (suc (suc n)) 1 ≡ false = le-ltb (suc (suc n)) 1 (omega arith) in
      let size : suc (suc n) - 1 ≡ suc n = omega arith in
      rw (narrow, fits) (sym (ap (λ (b : Bool). by_size b (suc (suc n)) e) narrow ∙ ap (λ (k : ℕ). put_behind (Some e.0 ∷ []) (places_at k e.1)) size))
]

unrolled : (n : ℕ) (left : List ℕ) → 0 < n → places_at n left ≡ (item (fitting_at n) left >>= behind_entry n)
unfolding narrow_at fitting_at
unrolled zero left some = absurd (omega (arith, some))
unrolled (suc zero) left some = at_last left (entry_at left)
unrolled (suc (suc n)) left some = before n left (entry_at left)

-- what is read behind places is behind them all
put_append : (front back : List (Option Entry)) (p : Parsed (List (Option Entry))) → put_behind front (put_behind back p) ≡ put_behind (front ++ back) p
put_append front back (Good rest left) = ap (λ (l : List (Option Entry)). Good l left) (sym (append_assoc front back rest))
put_append front back (Bad left) = refl

-- an entry that fits was read
pub goes_on : (whole : Parsed (List (Option Entry))) (front : List (Option Entry)) (n : ℕ) (left rest : List ℕ) (e : Entry) → 0 < n
    → item (fitting_at n) left ≡ Good e rest → put_behind front (places_at n left) ≡ whole → put_behind (front ++ slots_of e) (places_at (n - width e) rest) ≡ whole
goes_on whole front n left rest e some read so_far =
    sym (put_append front (slots_of e) (places_at (n - width e) rest))
    ∙ ap (put_behind front) (sym (unrolled n left some ∙ ap (λ (r : Parsed Entry). r >>= behind_entry n) read))
    ∙ so_far

-- none was
pub stops : (whole : Parsed (List (Option Entry))) (front : List (Option Entry)) (n : ℕ) (left at : List ℕ) → 0 < n
    → item (fitting_at n) left ≡ Bad at → put_behind front (places_at n left) ≡ whole → whole ≡ Bad at
stops whole front n left at some read so_far =
    sym so_far ∙ ap (put_behind front) (unrolled n left some ∙ ap (λ (r : Parsed Entry). r >>= behind_entry n) read)

-- no place is left
pub is_full : (whole : Parsed (List (Option Entry))) (front : List (Option Entry)) (n : ℕ) (left : List ℕ) → n ≡ 0
    → put_behind front (places_at n left) ≡ whole → whole ≡ Good front left
is_full whole front n left none so_far =
    sym so_far ∙ ap (λ (k : ℕ). put_behind front (places_at k left)) none ∙ ap (λ (l : List (Option Entry)). Good l left) (append-nil front)

-- ---- each entry takes its places

entry_filled : (e : Entry) (rest : List (Option Entry)) → IsSmall e → IsFilled rest → IsFilled (slots_of e ++ rest)
entry_filled e rest small filled = elim (cases_Bool (is_wide e)) [
  | inl wide ↦ rw wide (wide, small, filled)
  | inr narrow ↦ rw narrow (one narrow rest filled)
]
  where
    one : is_wide e ≡ false → (rest : List (Option Entry)) → IsFilled rest → IsFilled (Some e ∷ rest)
    one narrow [] filled = (narrow, small)
    one narrow (None ∷ rest) filled = absurd filled
    one narrow (Some f ∷ rest) filled = (narrow, small, filled)

-- nothing stands at place 0, and filled places may stand behind these
pub record IsBegun (slots : List (Option Entry)) : Type 0 where
  pub tail : List (Option Entry)
  pub parts : slots ≡ None ∷ tail
  pub fills : (rest : List (Option Entry)) → IsFilled rest → IsFilled (tail ++ rest)

more_begun : (slots : List (Option Entry)) (e : Entry) → IsSmall e → IsBegun slots → IsBegun (slots ++ slots_of e)
more_begun slots e small b = record {
  tail = b.tail ++ slots_of e;
  parts = ap (λ (l : List (Option Entry)). l ++ slots_of e) b.parts;
  fills = λ rest filled. rw append_assoc (b.fills (slots_of e ++ rest) (entry_filled e rest small filled));
}

pub begun_pool : (slots : List (Option Entry)) → length slots < 65536 → IsBegun slots → IsPool slots
begun_pool slots few b = subst IsPool (sym b.parts) (
  omega (arith, ap length b.parts, few),
  subst IsFilled (append-nil b.tail) (b.fills [] tt),
)

-- ---- the loop

pub record Filling (whole : Parsed (List (Option Entry))) (count : ℕ) (old : Reading) (slots : List (Option Entry)) (now : Reading) : Type 0 where
  pub reads : put_behind slots (places_at (count - length slots) now.left) ≡ whole
  pub within : length slots ≤ count
  pub begins : IsBegun slots
  pub end : SameEnd old now
  pub later : old.place ≤ now.place

pub length_slots : (e : Entry) → length (slots_of e) ≡ width e
length_slots e = elim (cases_Bool (is_wide e)) [ inl wide ↦ rw wide refl | inr narrow ↦ rw narrow refl ]

pub fills_more : (whole : Parsed (List (Option Entry))) (count : ℕ) (old : Reading) (slots : List (Option Entry)) (now next : Reading) (e : Entry) (n : ℕ)
    → n ≡ count - length slots → 0 < n → IsSmall e → width e ≤ n → item (fitting_at n) now.left ≡ Good e next.left → SameEnd now next → now.place ≤ next.place
    → Filling whole count old slots now → Filling whole count old (slots ++ slots_of e) next
fills_more whole count old slots now next e n left room small fits read end later f = record {
  reads = subst (λ (k : ℕ). put_behind (slots ++ slots_of e) (places_at k next.left) ≡ whole) size
      (goes_on whole slots n now.left next.left e room read (subst (λ (k : ℕ). put_behind slots (places_at k now.left) ≡ whole) (sym left) f.reads));
  within = omega (arith, length-append slots (slots_of e), length_slots e, fits, left);
  begins = more_begun slots e small f.begins;
  end = end ∙ f.end;
  later = omega (arith, later, f.later);
}
  where
    size : n - width e ≡ count - length (slots ++ slots_of e)
    size = omega (arith, length-append slots (slots_of e), length_slots e, left)

-- no entry that fits was read
pub refuses : (whole : Parsed (List (Option Entry))) (count : ℕ) (old : Reading) (slots : List (Option Entry)) (now next : Reading) (fail : Fail Refusal) (n : ℕ)
    → n ≡ count - length slots → 0 < n → Parses (λ (e : Entry). e) (Err fail) now next (item (fitting_at n) now.left)
    → Filling whole count old slots now → Parses (λ (l : List (Option Entry)). l) (Err fail) old next whole
refuses whole count old slots now next fails.Memory n left room read f = tt
refuses whole count old slots now next (fails.Said refusal) n left room read f = (
  read.0,
  stops whole slots n now.left read.0 room read.1 (subst (λ (k : ℕ). put_behind slots (places_at k now.left) ≡ whole) (sym left) f.reads),
  record { kind = read.2.kind; method = read.2.method; place = read.2.place ∙ f.end },
)

-- all places are filled
pub is_read : (whole : Parsed (List (Option Entry))) (count : ℕ) (old : Reading) (slots : List (Option Entry)) (now : Reading)
    → count ≤ length slots → Filling whole count old slots now → whole ≡ Good slots now.left
is_read whole count old slots now full f = is_full whole slots (count - length slots) now.left (omega (arith, full)) f.reads

pub is_pool : (whole : Parsed (List (Option Entry))) (count : ℕ) (old : Reading) (slots : List (Option Entry)) (now : Reading)
    → count < 65536 → Filling whole count old slots now → IsPool slots
is_pool whole count old slots now small f = begun_pool slots (omega (arith, small, f.within)) f.begins
