-- What a class's added method asks for is found, or it has none that asks.
use Rattle.std.proofs.Common.{◌≡◌, ◌⊎◌, inl, inr, ℕ, ℤ, ◌<◌, ◌≤◌, ◌^◌, Bool, true, false, List, Option, Some, None, int_eq, refl, sym, ◌∙◌, ap, arith}
use Rattle.std.specs.Int.{w64, cast_signed, cast_unsigned}
use Rattle.std.specs.Bool.{Decides}
use Rattle.std.proofs.lemmas.Bool.{cases_lt}
use Rattle.std.proofs.lemmas.Bool.Decides.{Decides-int_eq}
use Rattle.std.proofs.lemmas.Int.{of_z-to_z}
use Rattle.std.proofs.lemmas.Option.{none-some, same_Some}
use Rattle.jc_methods.specs.ProbeMembers.{data_name, data_type, fetch_of, runtime_class, fetch_name, fetch_type, most_probes}
use Rattle.jc_methods.specs.WellMade.{what_used}
use Rattle.jc_methods.specs.declared.body.Body.{Body}
use Rattle.jc_methods.specs.declared.body.Use.{Use}
use Rattle.jc_methods.specs.declared.body.What.{What}
use Rattle.jc_methods.specs.declared.body.What.TheVariants as whats
use Rattle.jc_methods.specs.declared.insn.Insn.{Insn}
use Rattle.jc_methods.specs.declared.probe_members.Fetch.{Fetch}
use Rattle.jc_methods.specs.declared.probe_members.Fetch.TheVariants as fetches
use Rattle.jc_programs.specs.declared.program.ProbeInit.{ProbeInit}
use Rattle.jc_pool.specs.Lookup.{string_of}
use Rattle.jc_class.specs.declared.class_file.ClassFile.{ClassFile}
use Rattle.jc_instrument.proofs.DecidedLaws.{OrNot, text_or_not}
use Rattle.jc_instrument.proofs.RoomDecidedLaws.{both_or_not}
use Rattle.jc_link_programs.specs.OwnBootstrap.{HasBootstrap}
use Rattle.jc_link_programs.specs.ProbeInits.{AreProbes, CodeAsks, NamesField, NamesMembers, added_code, added_of, asked_in, number_in, places_of}
use Rattle.jc_link_programs.specs.declared.asked.Asked.{Asked}
use Rattle.jc_link_programs.proofs.ProbeInitLaws.{Meant, are_probes, asks_meant, meant_asks, none_added, none_asked, none_asking, none_named}
use Rattle.jc_link_programs.proofs.SameCodeLaws.{code_decided}
use Rattle.jc_link_laws.proofs.FoundBootstrapLaws.{bootstrap_or_not}
use Rattle.jc_link_laws.proofs.FoundPairLaws.{texts_or_not}

-- ---- facts

decided : (t : Bool) (A : Type 0) → Decides t A → OrNot A
decided true A d = inl (d.0 refl)
decided false A d = inr (λ a. by (d.1 a))
  where
    by : false ≡ true → ⊥
    by e = cc

code_or_not : (a b : List Insn) → OrNot (a ≡ b)
code_or_not a b = let t = code_decided a b in decided t.0 (a ≡ b) t.1

-- ---- what stands at a place

field_texts : (c n d x y z : List ℕ) → Some (whats.Field c n d) ≡ Some (whats.Field x y z) → (c ≡ x) × ((n ≡ y) × (d ≡ z))
field_texts c n d x y z e = (cc, (cc, cc))

method_texts : (c n d x y z : List ℕ) → Some (whats.Method c n d) ≡ Some (whats.Method x y z) → (c ≡ x) × ((n ≡ y) × (d ≡ z))
method_texts c n d x y z e = (cc, (cc, cc))

field_or_not : (o : Option What) (x y z : List ℕ) → OrNot (o ≡ Some (whats.Field x y z))
field_or_not (Some (whats.Field c n d)) x y z = by (both_or_not (c ≡ x) ((n ≡ y) × (d ≡ z)) (texts_or_not c x) (both_or_not (n ≡ y) (d ≡ z) (texts_or_not n y) (texts_or_not d z)))
  where
    by : OrNot ((c ≡ x) × ((n ≡ y) × (d ≡ z))) → OrNot (Some (whats.Field c n d) ≡ Some (whats.Field x y z))
    by (inl same) = inl (λ i. Some (whats.Field (same.0 i) (same.1.0 i) (same.1.1 i)))
    by (inr other) = inr (λ e. other (field_texts c n d x y z e))
field_or_not other x y z = inr (λ e. cc)

method_or_not : (o : Option What) (x y z : List ℕ) → OrNot (o ≡ Some (whats.Method x y z))
method_or_not (Some (whats.Method c n d)) x y z = by (both_or_not (c ≡ x) ((n ≡ y) × (d ≡ z)) (texts_or_not c x) (both_or_not (n ≡ y) (d ≡ z) (texts_or_not n y) (texts_or_not d z)))
  where
    by : OrNot ((c ≡ x) × ((n ≡ y) × (d ≡ z))) → OrNot (Some (whats.Method c n d) ≡ Some (whats.Method x y z))
    by (inl same) = inl (λ i. Some (whats.Method (same.0 i) (same.1.0 i) (same.1.1 i)))
    by (inr other) = inr (λ e. other (method_texts c n d x y z e))
method_or_not other x y z = inr (λ e. cc)

-- the Long that stands there is the value of an id
abbrev IsIdOf : Option What → ℕ → Type 0
IsIdOf o id = (o ≡ Some (whats.Long (cast_signed w64 id))) × (id < 2 ^ 64)

long_is : (m n : ℤ) → Some (whats.Long m) ≡ Some (whats.Long n) → m ≡ n
long_is m n e = cc

id_or_not : (o : Option What) → OrNot ((id : ℕ) × IsIdOf o id)
id_or_not (Some (whats.Long v)) = by (cases_lt (cast_unsigned w64 v) (2 ^ 64)) (decided (int_eq (cast_signed w64 (cast_unsigned w64 v)) v) _ (Decides-int_eq (cast_signed w64 (cast_unsigned w64 v)) v))
  where
    own : (id : ℕ) → IsIdOf (Some (whats.Long v)) id → cast_unsigned w64 v ≡ id
    own id h = ap (cast_unsigned w64) (long_is v (cast_signed w64 id) h.0) ∙ of_z-to_z w64 id h.1

    by : (cast_unsigned w64 v < 2 ^ 64) ⊎ (2 ^ 64 ≤ cast_unsigned w64 v) → OrNot (cast_signed w64 (cast_unsigned w64 v) ≡ v)
        → OrNot ((id : ℕ) × IsIdOf (Some (whats.Long v)) id)
    by (inl less) (inl same) = inl (cast_unsigned w64 v, (ap (λ (z : ℤ). Some (whats.Long z)) (sym same), less))
    by (inl less) (inr other) = inr (λ h. other (ap (cast_signed w64) (own h.0 h.1) ∙ sym (long_is v (cast_signed w64 h.0) h.1.0)))
    by (inr past) same = inr (λ h. let e = own h.0 h.1 in let less = h.1.1 in omega (arith, e, less, past))
id_or_not (Some (whats.Field c n d)) = inr (λ h. let e = h.1.0 in cc)
id_or_not (Some (whats.Method c n d)) = inr (λ h. let e = h.1.0 in cc)
id_or_not (Some (whats.Call n d)) = inr (λ h. let e = h.1.0 in cc)
id_or_not (Some (whats.Class n)) = inr (λ h. let e = h.1.0 in cc)
id_or_not (Some (whats.Computed n d bootstrap)) = inr (λ h. let e = h.1.0 in cc)
id_or_not (Some (whats.Int v)) = inr (λ h. let e = h.1.0 in cc)
id_or_not (Some whats.Float) = inr (λ h. let e = h.1.0 in cc)
id_or_not (Some whats.Double) = inr (λ h. let e = h.1.0 in cc)
id_or_not (Some whats.Text) = inr (λ h. let e = h.1.0 in cc)
id_or_not (Some whats.MethodKind) = inr (λ h. let e = h.1.0 in cc)
id_or_not (Some whats.Handle) = inr (λ h. let e = h.1.0 in cc)
id_or_not None = inr (λ h. let e = h.1.0 in cc)

-- ---- what the code asks for

named_or_not : (fetch : Fetch) (uses : List Use) (name : List ℕ) (field : ℕ) → OrNot (NamesField fetch uses name field)
named_or_not fetches.Member uses name field = field_or_not (what_used uses field) name data_name data_type
named_or_not fetches.Constant uses name field = inl tt

members_or_not : (fetch : Fetch) (uses : List Use) (name : List ℕ) (a : Asked) → OrNot (NamesMembers fetch uses name a)
members_or_not fetch uses name a =
    by (named_or_not fetch uses name a.field) (method_or_not (what_used uses a.fetch) runtime_class fetch_name fetch_type)
  where
    by : OrNot (NamesField fetch uses name a.field) → OrNot (what_used uses a.fetch ≡ Some (whats.Method runtime_class fetch_name fetch_type))
        → OrNot (NamesMembers fetch uses name a)
    by (inl field) (inl fetched) = inl (record { field_is = field; fetch_is = fetched })
    by (inl field) (inr other) = inr (λ m. other m.fetch_is)
    by (inr other) fetched = inr (λ m. other m.field_is)

-- what code asks for
record Known (fetch : Fetch) (name : List ℕ) (b : Body) : Type 0 where
  id : ℕ
  count : ℕ
  text : ℕ
  asks : CodeAsks fetch name b id count text

module _ (fetch : Fetch) (name : List ℕ) (b : Body) where
  known_by : (a : Asked) → asked_in fetch b.code ≡ Some a → (count : ℕ) → number_in b.uses a.count ≡ Some count → OrNot (Known fetch name b)
  known_by a there count number = by (cases_lt most_probes count) (code_or_not b.code (added_code fetch (places_of a) count))
      (members_or_not fetch b.uses name a) (id_or_not (what_used b.uses a.id))
    where
      meant : (k : Known fetch name b) → Meant fetch name b a k.id k.count k.text
      meant k = asks_meant fetch name b a there k.id k.count k.text k.asks

      one_count : (k : Known fetch name b) → k.count ≡ count
      one_count k = same_Some k.count count (sym (meant k).number ∙ number)

      code_there : (k : Known fetch name b) → b.code ≡ added_code fetch (places_of a) count
      code_there k = (meant k).code ∙ ap (added_code fetch (places_of a)) (one_count k)

      by : (most_probes < count) ⊎ (count ≤ most_probes) → OrNot (b.code ≡ added_code fetch (places_of a) count) → OrNot (NamesMembers fetch b.uses name a)
          → OrNot ((id : ℕ) × IsIdOf (what_used b.uses a.id) id) → OrNot (Known fetch name b)
      by (inl many) code members id = inr (λ k. let few = (meant k).few in let e = one_count k in omega (arith, many, few, e))
      by (inr few) (inr other) members id = inr (λ k. other (code_there k))
      by (inr few) (inl code) (inr other) id = inr (λ k. other (meant k).members)
      by (inr few) (inl code) (inl members) (inr none) = inr (λ k. none (k.id, ((meant k).id_is, k.asks.id_fits)))
      by (inr few) (inl code) (inl members) (inl id) = inl (record {
        id = id.0;
        count = count;
        text = a.name;
        asks = meant_asks fetch name b a id.0 count a.name
            (record { number = number; few = few; code = code; members = members; id_is = id.1.0; name = refl }) id.1.1;
      })

  known_of : (a : Asked) → asked_in fetch b.code ≡ Some a → OrNot (Known fetch name b)
  known_of a there = by (number_in b.uses a.count) refl
    where
      by : (o : Option ℕ) → number_in b.uses a.count ≡ o → OrNot (Known fetch name b)
      by None none = inr (λ k. none-some k.count (sym none ∙ (asks_meant fetch name b a there k.id k.count k.text k.asks).number))
      by (Some count) number = known_by a there count number

  known_or_not : OrNot (Known fetch name b)
  known_or_not = by (asked_in fetch b.code) refl
    where
      by : (o : Option Asked) → asked_in fetch b.code ≡ o → OrNot (Known fetch name b)
      by None none = inr (λ k. none_asked fetch name b none k.id k.count k.text k.asks)
      by (Some a) there = known_of a there

-- ---- what the class asks for

module _ (c : ClassFile) (name : List ℕ) (bodies : List Body) where
  abbrev fetch : Fetch
  fetch = fetch_of c.major

  abbrev Found : Type 0
  Found = (o : Option ProbeInit) × AreProbes c name bodies o

  with_known : (b : Body) → added_of fetch bodies ≡ Some b → Known fetch name b → Found
  with_known b first k = by (text_or_not (string_of c.pool k.text) name) (bootstrap_or_not c name fetch)
    where
      by : OrNot (string_of c.pool k.text ≡ Some name) → OrNot ((number : Option ℕ) × HasBootstrap fetch c name number) → Found
      by (inr other) bootstrap = (None, none_named c name bodies fetch refl b first k.id k.count k.text k.asks other)
      by (inl named) (inr none) =
          (None, are_probes c name bodies fetch refl b first k.id k.count k.text k.asks named None tt tt (λ number has. none (number, has)))
      by (inl named) (inl found) =
          let init : ProbeInit = record { id = k.id; count = k.count; bootstrap = found.0 } in
          (Some init, are_probes c name bodies fetch refl b first k.id k.count k.text k.asks named (Some init) (refl, refl) found.1 tt)

  pub found_probes : Found
  found_probes = by (added_of fetch bodies) refl
    where
      with_body : (b : Body) → added_of fetch bodies ≡ Some b → OrNot (Known fetch name b) → Found
      with_body b first (inl k) = with_known b first k
      with_body b first (inr none) =
          (None, none_asking c name bodies fetch refl b first (λ id count text asks. none (record { id = id; count = count; text = text; asks = asks })))

      by : (o : Option Body) → added_of fetch bodies ≡ o → Found
      by None none = (None, none_added c name bodies fetch refl none)
      by (Some b) first = with_body b first (known_or_not fetch name b)
