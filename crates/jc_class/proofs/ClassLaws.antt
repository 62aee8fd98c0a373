-- A class file is read exactly where the form spells one, and fails exactly where the form fails.
use Rattle.std.proofs.Common.{◌≡◌, inl, inr, ℕ, cond, nat_eq, List, [], ◌++◌, length, Some, None, Result, Ok, Err, IfOk, IfErr, MatchResult, refl, sym, ◌∙◌, ap, subst, arith}
use Rattle.std.proofs.lemmas.Bool.{eqb-true}
use Rattle.std.proofs.lemmas.List.{append-nil}
use Rattle.std.proofs.lemmas.Option.{same_Some}
use Rattle.jc_bytes.specs.Decoder.{IsBig, number_at}
use Rattle.jc_bytes.specs.Grammar.{WholeFails, Agrees}
use Rattle.jc_bytes.specs.Parsing.{Parsed, Good, item}
use Rattle.jc_bytes.proofs.CountedLaws.{agrees_number, agrees_counted}
use Rattle.jc_bytes.proofs.DecoderLaws.{bind_some, guard_some, number_takes, number_again}
use Rattle.jc_bytes.proofs.GrammarLaws.{agrees_nothing, agrees_item, agrees_followed, good_is, good_bad, never_both, one_failure}
use Rattle.jc_bytes.specs.declared.fail.Fail.{Fail}
use Rattle.jc_bytes.specs.declared.fail.Fail.TheVariants as fails
use Rattle.jc_bytes.specs.declared.refusal.Refusal.{Refusal}
use Rattle.jc_bytes.specs.declared.refusal.RefusalKind.TheVariants as kinds
use Rattle.jc_pool.proofs.PoolLaws.{pool_agrees}
use Rattle.jc_class.specs.declared.class_file.ClassFile.{ClassFile}
use Rattle.jc_class.specs.declared.item.Named.TheVariants as named
use Rattle.jc_class.specs.ClassFormat.{magic, class_file}
use Rattle.jc_class.specs.ItemReading.{magic_at}
use Rattle.jc_class.specs.ClassReading.{class_at, Stops, GivesWhole}
use Rattle.jc_class.specs.ClassText.{ClassText, FirstBad, RefusedAs, not_a_class}
use Rattle.jc_class.proofs.PartLaws.{agrees_named, agrees_attributes, agrees_field, agrees_method}

magic_takes : (bytes : List ℕ) (x : Unit {0}) (left : List ℕ) → magic_at bytes ≡ Some (x, left) → (front : List ℕ) × (bytes ≡ front ++ left) × IsBig 4 front 0xcafebabe
unfolding magic_at
magic_takes bytes x left e =
    let read = bind_some (number_at 4 bytes) (λ n. cond (nat_eq n.0 0xcafebabe) (Some (tt, n.1)) None) (x, left) e in
    let kept = guard_some (nat_eq read.0.0 0xcafebabe) (Some (tt, read.0.1)) (x, left) read.2 in
    let same : read.0.1 ≡ left = ap (λ (p : Unit {0} × List ℕ). p.1) (same_Some (tt, read.0.1) (x, left) kept.1) in
    let t = number_takes 4 bytes read.0.0 read.0.1 read.1 in
    (t.0, t.1 ∙ ap (λ (l : List ℕ). t.0 ++ l) same, record { size = t.2.size; value = t.2.value ∙ eqb-true read.0.0 0xcafebabe kept.0 })

magic_again : (front rest : List ℕ) (x : Unit {0}) → IsBig 4 front 0xcafebabe → magic_at (front ++ rest) ≡ Some (x, rest)
unfolding magic_at
magic_again front rest x is = rw (number_again 4 front rest 0xcafebabe is) refl

agrees_magic : Agrees magic (item magic_at)
agrees_magic = agrees_item (λ bytes _. IsBig 4 bytes 0xcafebabe) magic_at magic_takes magic_again

pub class_agrees : Agrees class_file class_at
unfolding class_at class_file
class_agrees =
    agrees_followed _ _ _ _ agrees_magic (λ _.
    agrees_followed _ _ _ _ (agrees_number 2) (λ minor.
    agrees_followed _ _ _ _ (agrees_number 2) (λ major.
    agrees_followed _ _ _ _ pool_agrees (λ pool.
    agrees_followed _ _ _ _ (agrees_number 2) (λ flags.
    agrees_followed _ _ _ _ (agrees_named pool named.Class) (λ this_class.
    agrees_followed _ _ _ _ (agrees_named pool named.ClassOrNone) (λ super_class.
    agrees_followed _ _ _ _ (agrees_counted _ _ (agrees_named pool named.Class)) (λ interfaces.
    agrees_followed _ _ _ _ (agrees_counted _ _ (agrees_field pool)) (λ fields.
    agrees_followed _ _ _ _ (agrees_counted _ _ (agrees_method pool)) (λ methods.
    agrees_followed _ _ _ _ (agrees_attributes pool) (λ attributes.
    agrees_nothing (record {
      minor = minor;
      major = major;
      pool = pool;
      flags = flags;
      this_class = this_class;
      super_class = super_class;
      interfaces = interfaces;
      fields = fields;
      methods = methods;
      attributes = attributes;
    }))))))))))))

-- ---- whole files

whole_text : (bytes : List ℕ) (c : ClassFile) → class_at bytes ≡ Good c [] → ClassText bytes c
whole_text bytes c e = let t = class_agrees.good bytes c [] e in subst (λ (l : List ℕ). ClassText l c) (sym (t.1 ∙ append-nil t.0)) t.2

whole_good : (bytes : List ℕ) (c : ClassFile) → ClassText bytes c → class_at bytes ≡ Good c []
whole_good bytes c text = ap class_at (sym (append-nil bytes)) ∙ class_agrees.again bytes [] c text

whole_fails : (bytes left : List ℕ) → Stops (class_at bytes) left → WholeFails class_file bytes left
whole_fails bytes left (inl bad) = inl (class_agrees.bad bytes left bad)
whole_fails bytes left (inr more) = let t = class_agrees.good bytes more.0 left more.1 in inr (more.0, t.0, t.1, t.2, more.2)

refusal_is : (refusal : Refusal) → refusal.kind ≡ kinds.NotAClass → refusal.method ≡ None → refusal ≡ not_a_class refusal.place
refusal_is refusal kind method = λ i. record { kind = kind i; method = method i; place = refusal.place }

pub reads : (r : Result ClassFile (Fail Refusal)) (bytes : List ℕ) → GivesWhole r bytes (class_at bytes) → IfOk r (ClassText bytes)
reads (Ok c) bytes gives = whole_text bytes c gives
reads (Err e) bytes gives = tt

pub refuses : (r : Result ClassFile (Fail Refusal)) (bytes : List ℕ) → GivesWhole r bytes (class_at bytes) → IfErr r (λ e. RefusedAs e (FirstBad bytes))
refuses (Ok c) bytes gives = tt
refuses (Err fails.Memory) bytes gives = tt
refuses (Err (fails.Said refusal)) bytes gives =
    (refusal_is refusal gives.2.kind gives.2.method, (gives.0, whole_fails bytes gives.0 gives.1, omega (arith, gives.2.place)))

good_stops : (c : ClassFile) (parsed : Parsed ClassFile) (left : List ℕ) → parsed ≡ Good c [] → Stops parsed left → ⊥
good_stops c parsed left good (inl bad) = good_bad (sym good ∙ bad)
good_stops c parsed left good (inr more) = more.2 (sym (good_is c more.0 [] left (sym good ∙ more.1)).1)

pub takes : (r : Result ClassFile (Fail Refusal)) (bytes : List ℕ) → GivesWhole r bytes (class_at bytes) → (c : ClassFile) → ClassText bytes c → MatchResult r (λ d. d ≡ c) (λ e. e ≡ fails.Memory)
takes (Ok d) bytes gives c text = (good_is d c [] [] (sym gives ∙ whole_good bytes c text)).0
takes (Err fails.Memory) bytes gives c text = refl
takes (Err (fails.Said refusal)) bytes gives c text = absurd (good_stops c (class_at bytes) gives.0 (whole_good bytes c text) gives.1)

-- bytes that are refused are left at one offset
one_stop : (bytes left more : List ℕ) → Stops (class_at bytes) left → WholeFails class_file bytes more → left ≡ more
one_stop bytes left more stops fails = one_failure class_file class_at class_agrees bytes left more (whole_fails bytes left stops) fails

pub fails_there : (r : Result ClassFile (Fail Refusal)) (bytes : List ℕ) → GivesWhole r bytes (class_at bytes) → (offset : ℕ) → FirstBad bytes offset
    → MatchResult r (λ _. ⊥) (λ e. RefusedAs e (λ found. found ≡ offset))
fails_there (Ok c) bytes gives offset bad = never_both class_file class_at class_agrees bytes c bad.0 (whole_text bytes c gives) bad.1
fails_there (Err fails.Memory) bytes gives offset bad = tt
fails_there (Err (fails.Said refusal)) bytes gives offset bad =
    let same : length gives.0 ≡ length bad.0 = ap length (one_stop bytes gives.0 bad.0 gives.1 bad.1) in
    (refusal_is refusal gives.2.kind gives.2.method, omega (arith, gives.2.place, bad.2, same))
