-- What is known of a class decides whether it is one that an instruction needs.
use Rattle.std.proofs.Common.{◌≡◌, ℕ, Bool, true, false, ◌||◌, List, Option, Some, None, is_some, codes, refl, sym, ◌∙◌, ap, ap₂, if◌then◌else◌}
use Rattle.std.specs.Str.{bytes_eq}
use Rattle.jc_programs.specs.declared.run_end.Thrown.{Thrown}
use Rattle.jc_programs.specs.declared.run_end.Thrown.TheVariants as thrown
use Rattle.jc_programs.specs.Throwables.{name_of, thrown_named, is_named_in}
use Rattle.jc_machine_code.specs.declared.operation.PrimitiveType.{PrimitiveType}
use Rattle.jc_machine_code.specs.declared.operation.PrimitiveType.TheVariants as primitives
use Rattle.jc_machine_code.specs.declared.operation.ElementTypes.{ElementTypes}
use Rattle.jc_machine_code.specs.declared.operation.ElementTypes.TheVariants as elements
use Rattle.jc_machine_code.specs.Types.{element_types}
use Rattle.jc_refs_check.specs.declared.known.Known.{Known}
use Rattle.jc_refs_check.specs.declared.known.Known.TheVariants as known
use Rattle.jc_refs_check.specs.Suits.{object_class, class_suits, is_throwable_below}
use Rattle.jc_refs_check.specs.Known.{known_array, known_other, known_by}
use Rattle.jc_refs_check.specs.Needs.{is_array_of, is_any_array, is_throwable}
use Rattle.jc_refs_check.specs.KindNeeds.{is_element}
use Rattle.jc_refs_check.proofs.ThrownLaws.{flipped, same_bytes, bytes_are, named_is, named_back}
use Rattle.jc_refs_check.proofs.KnownLaws.{array_known}

-- ---- a test of a name, by each name of which something is known

each_thrown : (test : Thrown → Bool) (r : Bool) → test thrown.Throwable ≡ r → test thrown.Exception ≡ r → test thrown.Error ≡ r → test thrown.RuntimeException ≡ r
    → test thrown.ArithmeticException ≡ r → test thrown.IllegalArgumentException ≡ r → test thrown.IllegalStateException ≡ r → test thrown.NullPointerException ≡ r
    → test thrown.NegativeArraySizeException ≡ r → test thrown.ArrayStoreException ≡ r → test thrown.IndexOutOfBoundsException ≡ r
    → test thrown.ArrayIndexOutOfBoundsException ≡ r → test thrown.VirtualMachineError ≡ r → test thrown.StackOverflowError ≡ r → test thrown.OutOfMemoryError ≡ r
    → (c : Thrown) → test c ≡ r
each_thrown test r p0 p1 p2 p3 p4 p5 p6 p7 p8 p9 p10 p11 p12 p13 p14 thrown.Throwable = p0
each_thrown test r p0 p1 p2 p3 p4 p5 p6 p7 p8 p9 p10 p11 p12 p13 p14 thrown.Exception = p1
each_thrown test r p0 p1 p2 p3 p4 p5 p6 p7 p8 p9 p10 p11 p12 p13 p14 thrown.Error = p2
each_thrown test r p0 p1 p2 p3 p4 p5 p6 p7 p8 p9 p10 p11 p12 p13 p14 thrown.RuntimeException = p3
each_thrown test r p0 p1 p2 p3 p4 p5 p6 p7 p8 p9 p10 p11 p12 p13 p14 thrown.ArithmeticException = p4
each_thrown test r p0 p1 p2 p3 p4 p5 p6 p7 p8 p9 p10 p11 p12 p13 p14 thrown.IllegalArgumentException = p5
each_thrown test r p0 p1 p2 p3 p4 p5 p6 p7 p8 p9 p10 p11 p12 p13 p14 thrown.IllegalStateException = p6
each_thrown test r p0 p1 p2 p3 p4 p5 p6 p7 p8 p9 p10 p11 p12 p13 p14 thrown.NullPointerException = p7
each_thrown test r p0 p1 p2 p3 p4 p5 p6 p7 p8 p9 p10 p11 p12 p13 p14 thrown.NegativeArraySizeException = p8
each_thrown test r p0 p1 p2 p3 p4 p5 p6 p7 p8 p9 p10 p11 p12 p13 p14 thrown.ArrayStoreException = p9
each_thrown test r p0 p1 p2 p3 p4 p5 p6 p7 p8 p9 p10 p11 p12 p13 p14 thrown.IndexOutOfBoundsException = p10
each_thrown test r p0 p1 p2 p3 p4 p5 p6 p7 p8 p9 p10 p11 p12 p13 p14 thrown.ArrayIndexOutOfBoundsException = p11
each_thrown test r p0 p1 p2 p3 p4 p5 p6 p7 p8 p9 p10 p11 p12 p13 p14 thrown.VirtualMachineError = p12
each_thrown test r p0 p1 p2 p3 p4 p5 p6 p7 p8 p9 p10 p11 p12 p13 p14 thrown.StackOverflowError = p13
each_thrown test r p0 p1 p2 p3 p4 p5 p6 p7 p8 p9 p10 p11 p12 p13 p14 thrown.OutOfMemoryError = p14

-- the name is none of an array's that is known
pub record IsOtherArray (name : List ℕ) : Type 0 where
  pub booleans : bytes_eq name (codes "[Z") ≡ false
  pub bytes : bytes_eq name (codes "[B") ≡ false
  pub chars : bytes_eq name (codes "[C") ≡ false
  pub shorts : bytes_eq name (codes "[S") ≡ false
  pub ints : bytes_eq name (codes "[I") ≡ false
  pub longs : bytes_eq name (codes "[J") ≡ false

-- what a test of the name says, a test of what is known says
module _ (f : Known → Bool) (g : List ℕ → Bool) where
  choice : (name text : List ℕ) (k other : Known) → f k ≡ g text → (bytes_eq name text ≡ false → f other ≡ g name)
      → f (if bytes_eq name text then k else other) ≡ g name
  choice name text k other here more = by (bytes_eq name text) refl
    where
      by : (b : Bool) → bytes_eq name text ≡ b → f (if b then k else other) ≡ g name
      by true q = here ∙ ap g (sym (bytes_are name text q))
      by false q = more q

  array_is : (name : List ℕ) → f (known.Array primitives.Boolean) ≡ g (codes "[Z") → f (known.Array primitives.Byte) ≡ g (codes "[B")
      → f (known.Array primitives.Char) ≡ g (codes "[C") → f (known.Array primitives.Short) ≡ g (codes "[S") → f (known.Array primitives.Int) ≡ g (codes "[I")
      → f (known.Array primitives.Long) ≡ g (codes "[J") → (IsOtherArray name → f known.Other ≡ g name) → f (known_array name) ≡ g name
  array_is name z b c s i j rest =
      choice name (codes "[Z") (known.Array primitives.Boolean) _ z (λ nz.
      choice name (codes "[B") (known.Array primitives.Byte) _ b (λ nb.
      choice name (codes "[C") (known.Array primitives.Char) _ c (λ nc.
      choice name (codes "[S") (known.Array primitives.Short) _ s (λ ns.
      choice name (codes "[I") (known.Array primitives.Int) _ i (λ ni.
      choice name (codes "[J") (known.Array primitives.Long) known.Other j (λ nj.
      rest (record { booleans = nz; bytes = nb; chars = nc; shorts = ns; ints = ni; longs = nj })))))))

  pub known_is : (name : List ℕ) → ((c : Thrown) → f (known.Throwable c) ≡ g (name_of c)) → f known.Object ≡ g object_class
      → f known.PrintStream ≡ g (codes "java/io/PrintStream") → f known.Text ≡ g (codes "java/lang/String")
      → (bytes_eq name (codes "java/io/PrintStream") ≡ false → bytes_eq name (codes "java/lang/String") ≡ false → f (known_array name) ≡ g name) → f (known_by name) ≡ g name
  unfolding known_by
  known_is name c object stream text array = by (thrown_named name) refl
    where
      by : (o : Option Thrown) → thrown_named name ≡ o → f (elim o [ Some d ↦ known.Throwable d | None ↦ known_other name ]) ≡ g name
      by (Some d) e = c d ∙ ap g (named_is name d e)
      by None e = choice name object_class known.Object _ object (λ no.
          choice name (codes "java/io/PrintStream") known.PrintStream _ stream (λ ns.
          choice name (codes "java/lang/String") known.Text _ text (λ nt. array ns nt)))

-- ---- arrays

abbrev pub is_array_known : ElementTypes → Known → Bool
is_array_known e (known.Array t) = is_element e t
is_array_known e k = false

abbrev pub is_any_known : Known → Bool
is_any_known (known.Array t) = true
is_any_known k = false

no_thrown_array : (e : ElementTypes) (c : Thrown) → false ≡ is_array_of (element_types e) (name_of c)
no_thrown_array elements.Int c = sym (each_thrown (λ d. is_array_of (element_types elements.Int) (name_of d)) false refl refl refl refl refl refl refl refl refl refl refl refl refl refl refl c)
no_thrown_array elements.Long c = sym (each_thrown (λ d. is_array_of (element_types elements.Long) (name_of d)) false refl refl refl refl refl refl refl refl refl refl refl refl refl refl refl c)
no_thrown_array elements.ByteOrBoolean c = sym (each_thrown (λ d. is_array_of (element_types elements.ByteOrBoolean) (name_of d)) false refl refl refl refl refl refl refl refl refl
    refl refl refl refl refl refl c)
no_thrown_array elements.Char c = sym (each_thrown (λ d. is_array_of (element_types elements.Char) (name_of d)) false refl refl refl refl refl refl refl refl refl refl refl refl refl refl refl c)
no_thrown_array elements.Short c = sym (each_thrown (λ d. is_array_of (element_types elements.Short) (name_of d)) false refl refl refl refl refl refl refl refl refl refl refl refl refl refl refl c)

pub array_known_is : (e : ElementTypes) (name : List ℕ) → is_array_known e (known_by name) ≡ is_array_of (element_types e) name
array_known_is elements.Int name = known_is (is_array_known elements.Int) (is_array_of (element_types elements.Int)) name (no_thrown_array elements.Int) refl refl refl
    (λ ns nt. array_is (is_array_known elements.Int) (is_array_of (element_types elements.Int)) name refl refl refl refl refl refl (λ o. ap (λ (b : Bool). b || false) (sym o.ints)))
array_known_is elements.Long name = known_is (is_array_known elements.Long) (is_array_of (element_types elements.Long)) name (no_thrown_array elements.Long) refl refl refl
    (λ ns nt. array_is (is_array_known elements.Long) (is_array_of (element_types elements.Long)) name refl refl refl refl refl refl (λ o. ap (λ (b : Bool). b || false) (sym o.longs)))
array_known_is elements.ByteOrBoolean name = known_is (is_array_known elements.ByteOrBoolean) (is_array_of (element_types elements.ByteOrBoolean)) name
    (no_thrown_array elements.ByteOrBoolean) refl refl refl
    (λ ns nt. array_is (is_array_known elements.ByteOrBoolean) (is_array_of (element_types elements.ByteOrBoolean)) name refl refl refl refl refl refl
    (λ o. ap₂ (λ (a b : Bool). a || (b || false)) (sym o.bytes) (sym o.booleans)))
array_known_is elements.Char name = known_is (is_array_known elements.Char) (is_array_of (element_types elements.Char)) name (no_thrown_array elements.Char) refl refl refl
    (λ ns nt. array_is (is_array_known elements.Char) (is_array_of (element_types elements.Char)) name refl refl refl refl refl refl (λ o. ap (λ (b : Bool). b || false) (sym o.chars)))
array_known_is elements.Short name = known_is (is_array_known elements.Short) (is_array_of (element_types elements.Short)) name (no_thrown_array elements.Short) refl refl refl
    (λ ns nt. array_is (is_array_known elements.Short) (is_array_of (element_types elements.Short)) name refl refl refl refl refl refl (λ o. ap (λ (b : Bool). b || false) (sym o.shorts)))

pub any_known_is : (name : List ℕ) → is_any_known (known_by name) ≡ is_any_array name
any_known_is name = known_is is_any_known is_any_array name
    (λ c. sym (each_thrown (λ d. is_any_array (name_of d)) false refl refl refl refl refl refl refl refl refl refl refl refl refl refl refl c)) refl refl refl
    (λ ns nt. array_is is_any_known is_any_array name refl refl refl refl refl refl
    (λ o. ap₂ (λ (a b : Bool). a || b) (sym o.booleans) (ap₂ (λ (a b : Bool). a || b) (sym o.chars) (ap₂ (λ (a b : Bool). a || b) (sym o.bytes)
    (ap₂ (λ (a b : Bool). a || b) (sym o.shorts) (ap₂ (λ (a b : Bool). a || (b || false)) (sym o.ints) (sym o.longs)))))))

pub array_not : (e : ElementTypes) (k : Known) → ((t : PrimitiveType) → k ≡ known.Array t → ⊥) → is_array_known e k ≡ false
array_not e (known.Array t) none = absurd (none t refl)
array_not e k none = refl

pub any_not : (k : Known) → ((t : PrimitiveType) → k ≡ known.Array t → ⊥) → is_any_known k ≡ false
any_not (known.Array t) none = absurd (none t refl)
any_not k none = refl

-- ---- throwables

abbrev pub is_throwable_known : Known → Bool
is_throwable_known (known.Throwable c) = true
is_throwable_known k = false

-- a class of which other things are known is no throwable
other_throwable : (name : List ℕ) → is_throwable_known (known_other name) ≡ false
other_throwable name = by (bytes_eq name object_class)
  where
    rest : (a b : Bool) → is_throwable_known (if a then known.PrintStream else if b then known.Text else known_array name) ≡ false
    rest true b = refl
    rest false true = refl
    rest false false = array_known is_throwable_known false name (λ t. refl) refl

    by : (a : Bool) → is_throwable_known (if a then known.Object else if bytes_eq name (codes "java/io/PrintStream") then known.PrintStream
        else if bytes_eq name (codes "java/lang/String") then known.Text else known_array name) ≡ false
    by true = refl
    by false = rest (bytes_eq name (codes "java/io/PrintStream")) (bytes_eq name (codes "java/lang/String"))

pub throwable_known_is : (name : List ℕ) → is_throwable_known (known_by name) ≡ is_throwable name
unfolding is_throwable known_by
throwable_known_is name = by (thrown_named name)
  where
    by : (o : Option Thrown) → is_throwable_known (elim o [ Some d ↦ known.Throwable d | None ↦ known_other name ]) ≡ is_some o
    by (Some c) = refl
    by None = other_throwable name

pub throwable_not : (k : Known) → ((c : Thrown) → k ≡ known.Throwable c → ⊥) → is_throwable_known k ≡ false
throwable_not (known.Throwable c) none = absurd (none c refl)
throwable_not k none = refl

abbrev pub is_thrown_known : Thrown → Known → Bool
is_thrown_known c (known.Throwable d) = bytes_eq (name_of c) (name_of d)
is_thrown_known c k = false

pub thrown_not : (c : Thrown) (k : Known) → ((d : Thrown) → k ≡ known.Throwable d → ⊥) → is_thrown_known c k ≡ false
thrown_not c (known.Throwable d) none = absurd (none d refl)
thrown_not c k none = refl

other_thrown : (c : Thrown) (name : List ℕ) → is_thrown_known c (known_other name) ≡ false
other_thrown c name = by (bytes_eq name object_class)
  where
    rest : (a b : Bool) → is_thrown_known c (if a then known.PrintStream else if b then known.Text else known_array name) ≡ false
    rest true b = refl
    rest false true = refl
    rest false false = array_known (is_thrown_known c) false name (λ t. refl) refl

    by : (a : Bool) → is_thrown_known c (if a then known.Object else if bytes_eq name (codes "java/io/PrintStream") then known.PrintStream
        else if bytes_eq name (codes "java/lang/String") then known.Text else known_array name) ≡ false
    by true = refl
    by false = rest (bytes_eq name (codes "java/io/PrintStream")) (bytes_eq name (codes "java/lang/String"))

pub thrown_known_is : (c : Thrown) (name : List ℕ) → is_thrown_known c (known_by name) ≡ bytes_eq (name_of c) name
unfolding known_by
thrown_known_is c name = by (thrown_named name) refl
  where
    none : thrown_named name ≡ None → (b : Bool) → bytes_eq (name_of c) name ≡ b → b ≡ false
    none e false q = refl
    none e true q = let there : Some c ≡ None = sym (named_back c) ∙ ap thrown_named (bytes_are (name_of c) name q) ∙ e in absurd cc

    by : (o : Option Thrown) → thrown_named name ≡ o → is_thrown_known c (elim o [ Some d ↦ known.Throwable d | None ↦ known_other name ]) ≡ bytes_eq (name_of c) name
    by (Some d) e = ap (bytes_eq (name_of c)) (named_is name d e)
    by None e = other_thrown c name ∙ sym (none e (bytes_eq (name_of c) name) refl)

-- ---- the print stream and texts

abbrev pub is_stream_known : Known → Bool
is_stream_known known.PrintStream = true
is_stream_known k = false

pub stream_not : (k : Known) → (k ≡ known.PrintStream → ⊥) → is_stream_known k ≡ false
stream_not known.PrintStream none = absurd (none refl)
stream_not k none = refl

pub stream_known_is : (name : List ℕ) → is_stream_known (known_by name) ≡ bytes_eq (codes "java/io/PrintStream") name
stream_known_is name = known_is is_stream_known (bytes_eq (codes "java/io/PrintStream")) name
    (λ c. sym (each_thrown (λ d. bytes_eq (codes "java/io/PrintStream") (name_of d)) false refl refl refl refl refl refl refl refl refl refl refl refl refl refl refl c)) refl refl refl
    (λ ns nt. array_known is_stream_known false name (λ t. refl) refl ∙ sym (flipped (codes "java/io/PrintStream") name ∙ ns))

abbrev pub is_text_known : Known → Bool
is_text_known known.Text = true
is_text_known k = false

pub text_not : (k : Known) → (k ≡ known.Text → ⊥) → is_text_known k ≡ false
text_not known.Text none = absurd (none refl)
text_not k none = refl

-- no throwable is below `java/lang/String`
no_text_below : (name : List ℕ) → is_throwable_below name (codes "java/lang/String") ≡ false
no_text_below name = by (thrown_named name)
  where
    by : (o : Option Thrown) → elim o [ None ↦ false | Some c ↦ is_named_in c (codes "java/lang/String") ] ≡ false
    by None = refl
    by (Some c) = each_thrown (λ d. is_named_in d (codes "java/lang/String")) false refl refl refl refl refl refl refl refl refl refl refl refl refl refl refl c

pub text_known_is : (name : List ℕ) → is_text_known (known_by name) ≡ class_suits name (codes "java/lang/String")
unfolding class_suits
text_known_is name =
    known_is is_text_known (λ n. bytes_eq n (codes "java/lang/String")) name
    (λ c. sym (each_thrown (λ d. bytes_eq (name_of d) (codes "java/lang/String")) false refl refl refl refl refl refl refl refl refl refl refl refl refl refl refl c)) refl refl refl
    (λ ns nt. array_known is_text_known false name (λ t. refl) refl ∙ sym nt)
    ∙ or_none (bytes_eq name (codes "java/lang/String")) ∙ ap (λ (b : Bool). bytes_eq name (codes "java/lang/String") || (false || b)) (sym (no_text_below name))
  where
    or_none : (b : Bool) → b ≡ (b || (false || false))
    or_none true = refl
    or_none false = refl

-- ---- classes that are one

-- two classes of throwables are one where they have one name
pub same_thrown : (c d : Thrown) → bytes_eq (name_of c) (name_of d) ≡ true → d ≡ c
same_thrown c d e = some_is (sym (named_back d) ∙ ap thrown_named (sym (bytes_are (name_of c) (name_of d) e)) ∙ named_back c)
  where
    some_is : {x y : Thrown} → Some x ≡ Some y → x ≡ y
    some_is e = cc

pub thrown_is : (r : Bool) (d c : Thrown) → (d ≡ c → r ≡ true) → (r ≡ true → d ≡ c) → r ≡ bytes_eq (name_of c) (name_of d)
thrown_is r d c to back = by r refl (bytes_eq (name_of c) (name_of d)) refl
  where
    by : (x : Bool) → r ≡ x → (y : Bool) → bytes_eq (name_of c) (name_of d) ≡ y → x ≡ y
    by true p true q = refl
    by false p false q = refl
    by true p false q = sym (same_bytes (name_of c)) ∙ ap (λ (e : Thrown). bytes_eq (name_of c) (name_of e)) (sym (back p)) ∙ q
    by false p true q = sym p ∙ to (same_thrown c d q)
