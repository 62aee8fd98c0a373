-- What is made of class files is one list of texts, or one refusal.
use Rattle.std.proofs.Common.{◌≡◌, ◌⊎◌, inl, inr, ⊎_elim, ℕ, zero, suc, ◌+◌, ◌<◌, ◌≤◌, List, [], ◌∷◌, ◌++◌, length, take, get_or, map, Some, Ok, Err, Vec, Bor, refl, sym, ◌∙◌, ap, ap₂, subst, arith, Result}
use Rattle.std.proofs.lemmas.List.{take_more, take_all, map-append, get_or_default}
use Rattle.std.specs.List.{AllByRecursion, AllZip, flat_map}
use Rattle.std.proofs.lemmas.List.Concat.{flat_map-cons}
use Rattle.std.proofs.lemmas.Slice.Zip.{AllZip-long}
use Rattle.std.specs.declared.alloc.Global.{Global}
use Rattle.std.proofs.lemmas.Option.{same_Some}
use Rattle.jc_methods.specs.declared.analysed.Analysed.{Analysed}
use Rattle.jc_methods.specs.declared.body.Body.{Body}
use Rattle.jc_bytes.specs.declared.fail.Fail.{Fail}
use Rattle.jc_bytes.specs.declared.fail.Fail.TheVariants as fails
use Rattle.jc_bytes.specs.declared.refusal.Refusal.{Refusal}
use Rattle.jc_bytes.specs.Failing.{Said}
use Rattle.jc_instrument.specs.Analysis.{IsAnalysis}
use Rattle.jc_instrument.specs.Reasons.{AnalysisReason}
use Rattle.jc_instrument.specs.SameAnalysis.{IsSameAnalysis, without_frames}
use Rattle.jc_instrument.proofs.OneReasonLaws.{one_reason}
use Rattle.jc_instrument.proofs.SameAnalysisLaws.{same_analysis}
use Rattle.jc_instrument.proofs.EachAnalysisLaws.{each_analysis, analysis_or_reason}
use Rattle.jc_command_work.specs.declared.output.Write.{Write as Written}
use Rattle.jc_command_work.specs.declared.output.Write.TheVariants as written
use Rattle.jc_command_work.specs.Part.{gives}
use Rattle.jc_command_work.specs.Step.{Word, Write, to_out, IsFile}
use Rattle.jc_command_work.specs.Seen.{write_seen}
use Rattle.jc_command_classes.specs.ClassInfo.{class_line, method_line, class_text, Listing, prints, refuses, Lists, analysed, refused, IsListing, AreListed, RefusedAt}
use Rattle.jc_command_classes.specs.ClassInfo.{ListAnswers, listed, class_refused}
use Rattle.jc_command_work.specs.Answered.{AnswersWith}
use Rattle.jc_command_work.specs.Stopping.{class_stop}
use Rattle.jc_command_classes.proofs.EachLaws.{zipped_at, AtPlace}

-- ---- one file

-- the lines of bodies don't depend on their frames
lines_without : (bodies : List Body) → flat_map method_line (map without_frames bodies) ≡ flat_map method_line bodies
lines_without [] = refl
lines_without (b ∷ bodies) =
    flat_map-cons method_line (without_frames b) (map without_frames bodies)
    ∙ ap (λ (text : List ℕ). method_line b ++ text) (lines_without bodies) ∙ sym (flat_map-cons method_line b bodies)

same_text : (a b : Analysed) → IsSameAnalysis a b → class_text a ≡ class_text b
same_text a b same =
    let methods : flat_map method_line a.bodies ≡ flat_map method_line b.bodies =
    sym (lines_without a.bodies) ∙ ap (flat_map method_line) same.bodies ∙ lines_without b.bodies in
    ap₂ (λ (x y : List ℕ). x ++ y) (ap class_line same.rest) methods

-- a listing, by what decided it
data ListingOf (bytes : List ℕ) (l : Listing) : Type 0 where
  by_analysis : (a : Analysed) → IsAnalysis bytes a → l ≡ prints (class_text a) → ListingOf bytes l
  by_reason : (why : Refusal) → AnalysisReason bytes (Some why) → l ≡ refuses why → ListingOf bytes l

listing_of : (bytes : List ℕ) (l : Listing) → Lists bytes l → ListingOf bytes l
listing_of bytes l (analysed a is) = by_analysis a is refl
listing_of bytes l (refused why is) = by_reason why is refl

module _ (bytes : List ℕ) where
  one_listing_of : (a b : Listing) → ListingOf bytes a → ListingOf bytes b → a ≡ b
  one_listing_of a b (by_analysis x is e) (by_analysis y is' f) = e ∙ ap prints (same_text x y (same_analysis bytes x y is is')) ∙ sym f
  one_listing_of a b (by_analysis x is e) (by_reason why r f) = absurd (analysis_or_reason bytes x why is r)
  one_listing_of a b (by_reason why r e) (by_analysis x is f) = absurd (analysis_or_reason bytes x why is r)
  one_listing_of a b (by_reason why r e) (by_reason other s f) = e ∙ ap refuses (same_Some _ _ (one_reason bytes (Some why) (Some other) r s)) ∙ sym f

  pub one_listing : (a b : Listing) → Lists bytes a → Lists bytes b → a ≡ b
  one_listing a b p q = one_listing_of a b (listing_of bytes a p) (listing_of bytes b q)

  some_listing : IsFile bytes → (l : Listing) × Lists bytes l
  some_listing file = ⊎_elim (λ a. (_, analysed a.0 a.1)) (λ r. (_, refused r.0 r.1)) (each_analysis bytes file.are_bytes file.short)

text_is : (a b : List ℕ) → prints a ≡ prints b → a ≡ b
text_is a b e = cc

refusal_is : (a b : Refusal) → refuses a ≡ refuses b → a ≡ b
refusal_is a b e = cc

text_or_refusal : {P : Type 0} {a : List ℕ} {b : Refusal} → prints a ≡ refuses b → P
text_or_refusal e = absurd cc

-- ---- lists of files

pub one_list : (ts : List (List ℕ)) (ls ms : List (List ℕ)) → AreListed ts ls → AreListed ts ms → ls ≡ ms
one_list [] ls ms p q = p ∙ sym q
one_list (t ∷ ts) ls ms (own, rest, is, parts, later) (own', rest', is', parts', later') =
    let same : own ≡ own' = text_is own own' (one_listing t (prints own) (prints own') is is') in
    let more : rest ≡ rest' = one_list ts rest rest' later later' in
    parts ∙ ap₂ (λ (x : List ℕ) (xs : List (List ℕ)). x ∷ xs) same more ∙ sym parts'

pub listed_or_refused : (k : ℕ) (ps : List Word) (ts ls : List (List ℕ)) (index : ℕ) (path : Word) (why : Refusal) → AreListed ts ls → RefusedAt k ps ts index path why → ⊥
listed_or_refused k [] ts ls index path why p q = absurd q
listed_or_refused k (x ∷ ps) [] ls index path why p q = absurd q
listed_or_refused k (x ∷ ps) (t ∷ ts) ls index path why (own, rest, is, parts, later) (inl here) = text_or_refusal (one_listing t (prints own) (refuses why) is here.0)
listed_or_refused k (x ∷ ps) (t ∷ ts) ls index path why (own, rest, is, parts, later) (inr behind) = listed_or_refused (k + 1) ps ts rest index path why later behind.2

pub record SameRefusal (index : ℕ) (path : Word) (why : Refusal) (index' : ℕ) (path' : Word) (why' : Refusal) : Type 0 where
  pub index_is : index ≡ index'
  pub path_is : path ≡ path'
  pub why_is : why ≡ why'

pub one_refusal : (k : ℕ) (ps : List Word) (ts : List (List ℕ)) (index index' : ℕ) (path path' : Word) (why why' : Refusal)
    → RefusedAt k ps ts index path why → RefusedAt k ps ts index' path' why' → SameRefusal index path why index' path' why'
one_refusal k [] ts index index' path path' why why' p q = absurd p
one_refusal k (x ∷ ps) [] index index' path path' why why' p q = absurd p
one_refusal k (x ∷ ps) (t ∷ ts) index index' path path' why why' (inl p) (inl q) =
    record { index_is = p.1 ∙ sym q.1; path_is = p.2 ∙ sym q.2; why_is = refusal_is why why' (one_listing t (refuses why) (refuses why') p.0 q.0) }
one_refusal k (x ∷ ps) (t ∷ ts) index index' path path' why why' (inl p) (inr q) = text_or_refusal (one_listing t (prints q.0) (refuses why) q.1 p.0)
one_refusal k (x ∷ ps) (t ∷ ts) index index' path path' why why' (inr p) (inl q) = text_or_refusal (one_listing t (prints p.0) (refuses why') p.1 q.0)
one_refusal k (x ∷ ps) (t ∷ ts) index index' path path' why why' (inr p) (inr q) = one_refusal (k + 1) ps ts index index' path path' why why' p.2 q.2

-- the files are listed, or one is the first that is refused
abbrev Decided : ℕ → List Word → List (List ℕ) → Type 0
Decided k ps ts = ((ls : List (List ℕ)) × AreListed ts ls) ⊎ ((index : ℕ) × (path : Word) × (why : Refusal) × RefusedAt k ps ts index path why)

pub some_list : (k : ℕ) (ps : List Word) (ts : List (List ℕ)) → length ps ≡ length ts → AllByRecursion IsFile ts → Decided k ps ts
some_list k [] [] same short = inl ([], refl)
some_list k [] (t ∷ ts) same short = absurd (omega (arith, same))
some_list k (p ∷ ps) [] same short = absurd (omega (arith, same))
some_list k (p ∷ ps) (t ∷ ts) same short = by (some_listing t short.0).0 (some_listing t short.0).1 (some_list (k + 1) ps ts (omega (arith, same)) short.1)
  where
    by : (l : Listing) → Lists t l → Decided (k + 1) ps ts → Decided k (p ∷ ps) (t ∷ ts)
    by (refuses why) is rest = inr (k, p, why, inl (is, refl, refl))
    by (prints own) is (inl rest) = inl (own ∷ rest.0, (own, rest.0, is, refl, rest.1))
    by (prints own) is (inr rest) = inr (rest.0, rest.1, rest.2, inr (own, is, rest.3))

-- ---- what is said of one file

-- a reason for which a file is refused
pub refused_listing : (bytes : List ℕ) (fail : Fail Refusal) → Said fail (λ r. AnalysisReason bytes (Some r)) → IsListing bytes (Err fail)
refused_listing bytes fails.Memory said = tt
refused_listing bytes (fails.Said why) said = refused why said

-- ---- one file after the other

pub listed_more : (ts ls : List (List ℕ)) (t own : List ℕ) → AreListed ts ls → Lists t (prints own) → AreListed (ts ++ t ∷ []) (ls ++ own ∷ [])
listed_more [] ls t own none is = (own, [], is, ap (λ (l : List (List ℕ)). l ++ own ∷ []) none, refl)
listed_more (u ∷ ts) ls t own (front, rest, is', parts, later) is =
    (front, rest ++ own ∷ [], is', ap (λ (l : List (List ℕ)). l ++ own ∷ []) parts, listed_more ts rest t own later is)

pub refused_here : (k : ℕ) (ps : List Word) (ts ls : List (List ℕ)) (i : ℕ) (p : Word) (t : List ℕ) (why : Refusal) → length ps ≡ length ts
    → i < length ts → AreListed (take i ts) ls → t ≡ get_or ts i t → p ≡ get_or ps i p → Lists t (refuses why) → RefusedAt k ps ts (k + i) p why
refused_here k [] [] ls i p t why same within are text path is = absurd (omega (arith, within))
refused_here k [] (u ∷ ts) ls i p t why same within are text path is = absurd (omega (arith, same))
refused_here k (x ∷ ps) [] ls i p t why same within are text path is = absurd (omega (arith, same))
refused_here k (x ∷ ps) (u ∷ ts) ls zero p t why same within are text path is = inl (subst (λ (l : List ℕ). Lists l (refuses why)) text is, omega arith, path)
refused_here k (x ∷ ps) (u ∷ ts) ls (suc i) p t why same within (own, rest, first, parts, later) text path is =
    let next = refused_here (k + 1) ps ts rest i p t why (omega (arith, same)) (omega (arith, within)) later text path is in
    let index : k + 1 + i ≡ k + suc i = omega arith in
    inr (own, first, subst (λ (n : ℕ). RefusedAt (k + 1) ps ts n p why) index next)

-- ---- the writes of the texts

-- the files have these lines, each its own as one write
pub record LinesOf (texts : List (List ℕ)) (writes : List Written) : Type 0 where
  pub lines : List (List ℕ)
  pub writes_are : map write_seen writes ≡ map to_out lines
  pub listed : AreListed texts lines

pub no_lines : (texts : List (List ℕ)) (writes : List Written) → writes ≡ [] → LinesOf (take 0 texts) writes
no_lines texts writes none = record { lines = []; writes_are = ap (map write_seen) none; listed = refl }

more_lines : (texts : List (List ℕ)) (writes more : List Written) (i : ℕ) (t : List ℕ) (text : Vec ℕ Global)
    → LinesOf (take i texts) writes → i < length texts → t ≡ get_or texts i t
    → Lists t (prints text.items) → more ≡ writes ++ written.Out text ∷ [] → LinesOf (take (i + 1) texts) more
more_lines texts writes more i t text so_far within at is grows = record {
  lines = so_far.lines ++ text.items ∷ [];
  writes_are =
      ap (map write_seen) grows ∙ map-append write_seen writes (written.Out text ∷ [])
      ∙ ap (λ (ws : List Write). ws ++ to_out text.items ∷ []) so_far.writes_are
      ∙ sym (map-append to_out so_far.lines (text.items ∷ []));
  listed =
      let longer : take (i + 1) texts ≡ take i texts ++ t ∷ [] = take_more texts i t within ∙ ap (λ (u : List ℕ). take i texts ++ u ∷ []) (sym at) in
      subst (λ (ts : List (List ℕ)). AreListed ts (so_far.lines ++ text.items ∷ [])) (sym longer)
      (listed_more (take i texts) so_far.lines t text.items so_far.listed is);
}

listing_stops : (paths : List Word) (texts : List (List ℕ)) (writes : List Written) (i : ℕ) (t : List ℕ) (fail : Fail Refusal) (file : Bor (List ℕ))
    → length paths ≡ length texts → LinesOf (take i texts) writes → i < length texts → t ≡ get_or texts i t → file.now ≡ get_or paths i []
    → Said fail (λ r. Lists t (refuses r)) → AnswersWith (ListAnswers paths texts) (Err (class_stop fail i file))
listing_stops paths texts writes i t fails.Memory file same so_far within text path reason = tt
listing_stops paths texts writes i t (fails.Said why) file same so_far within text path reason =
    let counted : 0 + i ≡ i = omega arith in
    let at : file.now ≡ get_or paths i file.now = path ∙ get_or_default paths i [] file.now (omega (arith, same, within)) in
    class_refused i file.now why (subst (λ (n : ℕ). RefusedAt 0 paths texts n file.now why) counted
    (refused_here 0 paths texts so_far.lines i file.now t why same within so_far.listed text at reason))

module _ (texts : List (List ℕ)) (answers : List (Result (Vec ℕ Global) (Fail Refusal))) (are : AllZip IsListing texts answers)
    (writes : List Written) (n index : ℕ) (answer : Result (Vec ℕ Global) (Fail Refusal)) (so_far : LinesOf (take n texts) writes)
    (place : AtPlace answers n index answer) where
  own : (t : List ℕ) × (t ≡ get_or texts n t) × IsListing t answer
  own = zipped_at IsListing texts answers n answer are place.within place.at

  within : n < length texts
  within = let long = AllZip-long IsListing texts answers are in omega (arith, place.within, long)

  -- the lines of one more file are put last
  pub listing_put : (more : List Written) (text : Vec ℕ Global) → answer ≡ Ok text → more ≡ writes ++ written.Out text ∷ [] → LinesOf (take (n + 1) texts) more
  listing_put more text is grows = more_lines texts writes more n own.0 text so_far within own.1 (subst (IsListing own.0) is own.2) grows

  -- the file is the first that is refused
  pub listing_refused : (paths : List Word) (fail : Fail Refusal) (file : Bor (List ℕ)) → length paths ≡ length texts → answer ≡ Err fail
      → file.now ≡ get_or paths index [] → AnswersWith (ListAnswers paths texts) (Err (class_stop fail index file))
  listing_refused paths fail file same is path =
      let at : file.now ≡ get_or paths n [] = path ∙ ap (λ (k : ℕ). get_or paths k []) place.index_is in
      subst (λ (k : ℕ). AnswersWith (ListAnswers paths texts) (Err (class_stop fail k file))) (sym place.index_is)
      (listing_stops paths texts writes n own.0 fail file same so_far within own.1 at (subst (IsListing own.0) is own.2))

pub listing_done : (words : List Word) (texts : List (List ℕ)) (writes : Vec Written Global) (i : ℕ) → LinesOf (take i texts) writes.items
    → length texts ≤ i → AnswersWith (ListAnswers words texts) (Ok writes)
listing_done words texts writes i so_far all =
    subst (λ (ws : List Write). ListAnswers words texts (gives ws)) (sym so_far.writes_are)
    (listed so_far.lines (subst (λ (ts : List (List ℕ)). AreListed ts so_far.lines) (take_all i texts all) so_far.listed))
