-- What code names where the method that gives the probe array names it.
use Rattle.std.proofs.Common.{◌≡◌, ℕ, ℤ, ◌+◌, ◌-◌, ◌≤◌, ◌<◌, ◌^◌, Bool, true, false, cond, ◌&&◌, nat_le, pos, negsuc, List, [], ◌∷◌, Option, Some, None, option_and_then, refl, sym, ap, ◌∙◌, subst, arith}
use Rattle.std.specs.Prelude.{slice_index_or, IfSome, IfNone}
use Rattle.std.specs.Bool.{Decides}
use Rattle.std.specs.Cmp.Lexicographic.{pointwise, pointwise_decides}
use Rattle.std.specs.Int.{w64, cast_signed, cast_unsigned}
use Rattle.std.proofs.lemmas.Bool.{leb-true, le-leb}
use Rattle.std.proofs.lemmas.Int.{of_z-to_z}
use Rattle.std.proofs.lemmas.Option.{same_Some}
use Rattle.jc_bytes.proofs.OptionLaws.{none_some, some_is}
use Rattle.jc_methods.specs.ProbeMembers.{fetch_of, most_probes, most_short}
use Rattle.jc_methods.specs.Opcode as opcode
use Rattle.jc_methods.specs.declared.insn.Insn.{Insn}
use Rattle.jc_methods.specs.declared.insn.Insn.TheVariants as insns
use Rattle.jc_methods.specs.WellMade.{what_used}
use Rattle.jc_methods.specs.declared.body.Body.{Body}
use Rattle.jc_methods.specs.declared.body.Use.{Use}
use Rattle.jc_methods.specs.declared.body.What.{What}
use Rattle.jc_methods.specs.declared.body.What.TheVariants as whats
use Rattle.jc_methods.specs.declared.probe_members.Fetch.{Fetch}
use Rattle.jc_methods.specs.declared.probe_members.Fetch.TheVariants as fetches
use Rattle.jc_programs.specs.declared.program.ProbeInit.{ProbeInit}
use Rattle.jc_pool.specs.Lookup.{string_of}
use Rattle.jc_class.specs.declared.class_file.ClassFile.{ClassFile}
use Rattle.jc_emit.specs.Added.{HasCount, InitPlaces, push_count, end_place}
use Rattle.jc_emit.specs.Marks.{push}
use Rattle.jc_link_programs.specs.declared.asked.Asked.{Asked}
use Rattle.jc_link_programs.specs.declared.asked.Counted.{Counted}
use Rattle.jc_link_programs.specs.declared.asked.Counted.TheVariants as counts
use Rattle.jc_link_programs.specs.OwnBootstrap.{HasBootstrap}
use Rattle.jc_link_programs.specs.ProbeInits.{AreProbes, CodeAsks, HasInit, NamesField, NamesMembers, added_code, added_of, asked_by, asked_in, given_by, int_above, loaded_place, number_in, places_of}

-- two lists of instructions, where a test of two instructions decides equality
pub same_code : {E : Insn → Insn → Bool} (a b : List Insn) (r : Bool) → r ≡ pointwise E a b → ((x y : Insn) → Decides (E x y) (x ≡ y)) → Decides r (a ≡ b)
same_code {E} a b r is decides = let both = pointwise_decides decides a b in ((λ yes. both.0 (sym is ∙ yes)), (λ same. is ∙ both.1 same))

-- ---- the number of probes

-- what is pushed is read again
pushed_again : (n : ℕ) → given_by (push n) ≡ Some (counts.Pushed n)
pushed_again n = by (nat_le n 5) (nat_le n 127) refl
  where
    small : (n : ℕ) → n ≤ 5 → given_by (insns.Simple (3 + n)) ≡ Some (counts.Pushed n)
    small n le =
        ap (λ t. cond t (Some (counts.Pushed (3 + n - 3))) None) (ap (λ u. u && nat_le (3 + n) 8) (le-leb 3 (3 + n) (omega arith)) ∙ le-leb (3 + n) 8 (omega (arith, le)))
        ∙ ap (λ m. Some (counts.Pushed m)) (omega arith)

    by : (t u : Bool) → nat_le n 5 ≡ t → given_by (cond t (insns.Simple (3 + n)) (cond u (insns.Push 16 (pos n)) (insns.Push 17 (pos n)))) ≡ Some (counts.Pushed n)
    by true u e = small n (leb-true n 5 e)
    by false true e = refl
    by false false e = refl

-- where the code has the number: pushed by a short instruction, or loaded from its place
abbrev counted_by : InitPlaces → ℕ → Bool → Counted
counted_by p n t = cond t (counts.Pushed n) (counts.Loaded p.count)

abbrev counted_of : InitPlaces → ℕ → Counted
counted_of p n = counted_by p n (nat_le n most_short)

counted_again : (p : InitPlaces) (n : ℕ) → given_by (push_count p n) ≡ Some (counted_of p n)
counted_again p n = by (nat_le n most_short)
  where
    by : (t : Bool) → given_by (cond t (push n) (insns.Constant p.count)) ≡ Some (counted_by p n t)
    by true = pushed_again n
    by false = refl

number_again : (uses : List Use) (p : InitPlaces) (n : ℕ) → HasCount (nat_le n most_short) uses n p.count → number_in uses (counted_of p n) ≡ Some n
number_again uses p n has = by (nat_le n most_short) refl has
  where
    by : (t : Bool) → nat_le n most_short ≡ t → HasCount t uses n p.count → number_in uses (counted_by p n t) ≡ Some n
    by true e has = ap (λ t. cond t (Some n) None) e
    by false e has = ap (option_and_then int_above) has ∙ ap (λ t. cond t None (Some n)) e

-- an Integer of a number that no shorter instruction pushes
above_is : (w : What) (n : ℕ) → int_above w ≡ Some n → (w ≡ whats.Int (pos n)) × (nat_le n most_short ≡ false)
above_is (whats.Int (pos m)) n is = by (nat_le m most_short) refl is
  where
    by : (t : Bool) → nat_le m most_short ≡ t → cond t None (Some m) ≡ Some n → (whats.Int (pos m) ≡ whats.Int (pos n)) × (nat_le n most_short ≡ false)
    by true e found = absurd (none_some found)
    by false e found = (ap (λ k. whats.Int (pos k)) (some_is found), sym (ap (λ k. nat_le k most_short) (some_is found)) ∙ e)
above_is (whats.Int (negsuc m)) n is = absurd (none_some is)
above_is (whats.Field c x y) n is = absurd (none_some is)
above_is (whats.Method c x y) n is = absurd (none_some is)
above_is (whats.Call x y) n is = absurd (none_some is)
above_is (whats.Class x) n is = absurd (none_some is)
above_is (whats.Computed x y bootstrap) n is = absurd (none_some is)
above_is (whats.Long v) n is = absurd (none_some is)
above_is whats.Float n is = absurd (none_some is)
above_is whats.Double n is = absurd (none_some is)
above_is whats.Text n is = absurd (none_some is)
above_is whats.MethodKind n is = absurd (none_some is)
above_is whats.Handle n is = absurd (none_some is)

-- the number stands where the code has it
has_number : (uses : List Use) (c : Counted) (n : ℕ) → number_in uses c ≡ Some n → HasCount (nat_le n most_short) uses n (loaded_place c)
has_number uses (counts.Pushed m) n is = by (nat_le m most_short) refl is
  where
    by : (t : Bool) → nat_le m most_short ≡ t → cond t (Some m) None ≡ Some n → HasCount (nat_le n most_short) uses n 0
    by true e found = subst (λ (t : Bool). HasCount t uses n 0) (sym (sym (ap (λ k. nat_le k most_short) (some_is found)) ∙ e)) tt
    by false e found = absurd (none_some found)
has_number uses (counts.Loaded place) n is = by (what_used uses place) refl is
  where
    by : (o : Option What) → what_used uses place ≡ o → option_and_then int_above o ≡ Some n → HasCount (nat_le n most_short) uses n place
    by None there found = absurd (none_some found)
    by (Some w) there found =
        let above = above_is w n found in
        subst (λ (t : Bool). HasCount t uses n place) (sym above.1) (there ∙ ap Some above.0)

-- ---- places

abbrev field_of : Fetch → InitPlaces → ℕ
field_of fetches.Member p = p.field
field_of fetches.Constant p = 0

asked_of : Fetch → InitPlaces → ℕ → Asked
asked_of fetch p count = record { field = field_of fetch p; id = p.id; name = p.name; count = counted_of p count; fetch = p.fetch }

asked_again : (fetch : Fetch) (p : InitPlaces) (count : ℕ) → asked_in fetch (added_code fetch p count) ≡ Some (asked_of fetch p count)
unfolding asked_of
asked_again fetches.Member p count = ap (λ o. asked_by (Some p.field) (Some p.id) (Some p.name) o (Some p.fetch)) (counted_again p count)
asked_again fetches.Constant p count = ap (λ o. asked_by (Some 0) (Some p.id) (Some p.name) o (Some p.fetch)) (counted_again p count)

push_again : (p : InitPlaces) (n : ℕ) → push_count p n ≡ cond (nat_le n most_short) (push n) (insns.Constant (loaded_place (counted_of p n)))
push_again p n = by (nat_le n most_short)
  where
    by : (t : Bool) → cond t (push n) (insns.Constant p.count) ≡ cond t (push n) (insns.Constant (loaded_place (counted_by p n t)))
    by true = refl
    by false = refl

-- the places that stay in the code
code_again : (fetch : Fetch) (p : InitPlaces) (count : ℕ) → added_code fetch p count ≡ added_code fetch (places_of (asked_of fetch p count)) count
unfolding asked_of
code_again fetches.Member p count = ap with_push (push_again p count)
  where
    with_push : Insn → List Insn
    with_push insn =
        insns.Member opcode.getstatic p.field
        ∷ insns.Simple opcode.dup
        ∷ insns.Jump opcode.ifnonnull end_place
        ∷ insns.Simple opcode.pop
        ∷ insns.Constant2 p.id
        ∷ insns.Constant p.name
        ∷ insn
        ∷ insns.Member opcode.invokestatic p.fetch
        ∷ insns.Simple opcode.dup
        ∷ insns.Member opcode.putstatic p.field
        ∷ insns.Simple opcode.areturn
        ∷ []
code_again fetches.Constant p count = ap with_push (push_again p count)
  where
    with_push : Insn → List Insn
    with_push insn =
        insns.Constant2 p.id ∷ insns.Constant p.name ∷ insn ∷ insns.Member opcode.invokestatic p.fetch ∷ insns.Simple opcode.areturn ∷ []

-- two codes that are one name the class at one place
pub same_name_place : (fetch : Fetch) (p q : InitPlaces) (m n : ℕ) → added_code fetch p m ≡ added_code fetch q n → p.name ≡ q.name
same_name_place fetches.Member p q m n same = ap (λ code. name_by (slice_index_or code 5 (insns.Simple 0))) same
  where
    name_by : Insn → ℕ
    name_by (insns.Constant place) = place
    name_by _ = 0
same_name_place fetches.Constant p q m n same = ap (λ code. name_by (slice_index_or code 1 (insns.Simple 0))) same
  where
    name_by : Insn → ℕ
    name_by (insns.Constant place) = place
    name_by _ = 0

-- the code asks only for what stands there
asked_there : (fetch : Fetch) (class : List ℕ) (b : Body) (id count text : ℕ) (c : CodeAsks fetch class b id count text)
    → asked_in fetch b.code ≡ Some (asked_of fetch c.places count)
asked_there fetch class b id count text c = ap (asked_in fetch) c.code ∙ asked_again fetch c.places count

pub none_asked : (fetch : Fetch) (class : List ℕ) (b : Body) → asked_in fetch b.code ≡ None → (id count text : ℕ) → CodeAsks fetch class b id count text → ⊥
none_asked fetch class b none id count text c = none_some (sym none ∙ asked_there fetch class b id count text c)

-- what the code asks for, by what stands there
pub record Meant (fetch : Fetch) (class : List ℕ) (b : Body) (a : Asked) (id count text : ℕ) : Type 0 where
  pub number : number_in b.uses a.count ≡ Some count
  pub few : count ≤ most_probes
  pub code : b.code ≡ added_code fetch (places_of a) count
  pub members : NamesMembers fetch b.uses class a
  pub id_is : what_used b.uses a.id ≡ Some (whats.Long (cast_signed w64 id))
  pub name : a.name ≡ text

field_there : (fetch : Fetch) (uses : List Use) (class : List ℕ) (p : InitPlaces) → NamesField fetch uses class p.field → NamesField fetch uses class (field_of fetch p)
field_there fetches.Member uses class p is = is
field_there fetches.Constant uses class p is = tt

pub asks_meant : (fetch : Fetch) (class : List ℕ) (b : Body) (a : Asked) → asked_in fetch b.code ≡ Some a
    → (id count text : ℕ) → CodeAsks fetch class b id count text → Meant fetch class b a id count text
unfolding asked_of
asks_meant fetch class b a there id count text c =
    let e = same_Some a (asked_of fetch c.places count) (sym there ∙ asked_there fetch class b id count text c) in
    subst (λ x. Meant fetch class b x id count text) (sym e) (record {
      number = number_again b.uses c.places count c.count_is;
      few = c.count_fits;
      code = c.code ∙ code_again fetch c.places count;
      members = record { field_is = field_there fetch b.uses class c.places c.field_is; fetch_is = c.fetch_is };
      id_is = c.id_is;
      name = c.text_is;
    })

pub meant_asks : (fetch : Fetch) (class : List ℕ) (b : Body) (a : Asked) (id count text : ℕ) → Meant fetch class b a id count text → id < 2 ^ 64
    → CodeAsks fetch class b id count text
meant_asks fetch class b a id count text m less = record {
  places = places_of a;
  code = m.code;
  count_fits = m.few;
  count_is = has_number b.uses a.count count m.number;
  field_is = m.members.field_is;
  id_is = m.id_is;
  id_fits = less;
  text_is = m.name;
  fetch_is = m.members.fetch_is;
}

-- ---- what code asks for is told by it

module _ (fetch : Fetch) (class : List ℕ) (b : Body) (i j m n t u : ℕ) (c : CodeAsks fetch class b i m t) (d : CodeAsks fetch class b j n u) where
  same_asked : asked_of fetch c.places m ≡ asked_of fetch d.places n
  same_asked =
      same_Some (asked_of fetch c.places m) (asked_of fetch d.places n) (sym (asked_there fetch class b i m t c) ∙ asked_there fetch class b j n u d)

  pub one_text : t ≡ u
  unfolding asked_of
  one_text = sym c.text_is ∙ ap (λ (a : Asked). a.name) same_asked ∙ d.text_is

  pub one_count : m ≡ n
  unfolding asked_of
  one_count =
      some_is (sym (number_again b.uses c.places m c.count_is) ∙ ap (λ (a : Asked). number_in b.uses a.count) same_asked
      ∙ number_again b.uses d.places n d.count_is)

  same_long : (x y : ℤ) → Some (whats.Long x) ≡ Some (whats.Long y) → x ≡ y
  same_long x y e = cc

  pub one_id : i ≡ j
  unfolding asked_of
  one_id =
      let place = ap (λ (a : Asked). a.id) same_asked in
      let signed = same_long _ _ (sym c.id_is ∙ ap (λ (k : ℕ). what_used b.uses k) place ∙ d.id_is) in
      sym (of_z-to_z w64 i c.id_fits) ∙ ap (cast_unsigned w64) signed ∙ of_z-to_z w64 j d.id_fits

-- ---- the probes of a class

module _ (c : ClassFile) (name : List ℕ) (bodies : List Body) (fetch : Fetch) (same : fetch ≡ fetch_of c.major) where
  pub none_added : added_of fetch bodies ≡ None → AreProbes c name bodies None
  none_added none init h = none_some (sym none ∙ ap (λ (f : Fetch). added_of f bodies) same ∙ h.first)

  module _ (b : Body) (first : added_of fetch bodies ≡ Some b) where
    -- what the first method of the name asks for
    asking : (init : ProbeInit) (h : HasInit c name bodies init) → CodeAsks fetch name b init.id init.count h.asks.text
    asking init h =
        let body : b ≡ h.body = some_is (sym first ∙ ap (λ (f : Fetch). added_of f bodies) same ∙ h.first) in
        subst (λ (f : Fetch). CodeAsks f name b init.id init.count h.asks.text) (sym same)
        (subst (λ (x : Body). CodeAsks (fetch_of c.major) name x init.id init.count h.asks.text) (sym body) h.asks.code)

    pub none_asking : ((id count text : ℕ) → CodeAsks fetch name b id count text → ⊥) → AreProbes c name bodies None
    none_asking none init h = none init.id init.count h.asks.text (asking init h)

    module _ (id count text : ℕ) (asks : CodeAsks fetch name b id count text) where
      pub none_named : (string_of c.pool text ≡ Some name → ⊥) → AreProbes c name bodies None
      none_named other init h =
          let place = one_text fetch name b init.id id init.count count h.asks.text text (asking init h) asks in
          other (ap (string_of c.pool) (sym place) ∙ h.asks.name_is)

      pub are_probes : string_of c.pool text ≡ Some name → (o : Option ProbeInit) → IfSome o (λ init. (init.id ≡ id) × (init.count ≡ count))
          → IfSome o (λ init. HasBootstrap fetch c name init.bootstrap) → IfNone o ((number : Option ℕ) → HasBootstrap fetch c name number → ⊥)
          → AreProbes c name bodies o
      are_probes named None asked some none = λ init h.
          none init.bootstrap (subst (λ (f : Fetch). HasBootstrap f c name init.bootstrap) (sym same) h.asks.bootstrap)
      are_probes named (Some init) asked some none = record {
        body = b;
        first = ap (λ (f : Fetch). added_of f bodies) (sym same) ∙ first;
        asks = record {
          text = text;
          code =
              subst (λ (f : Fetch). CodeAsks f name b init.id init.count text) same
              (subst (λ (n : ℕ). CodeAsks fetch name b n init.count text) (sym asked.0)
              (subst (λ (n : ℕ). CodeAsks fetch name b id n text) (sym asked.1) asks));
          name_is = named;
          bootstrap = subst (λ (f : Fetch). HasBootstrap f c name init.bootstrap) same some;
        };
      }
