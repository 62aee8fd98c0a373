-- The bootstrap method that gives a class its probe array is found, or it has none.
use Rattle.std.proofs.Common.{◌≡◌, ◌⊎◌, inl, inr, ℕ, ◌<◌, ◌≤◌, List, [], ◌∷◌, ◌++◌, length, Option, Some, None, refl, sym, ◌∙◌, ap, arith}
use Rattle.std.proofs.lemmas.Bool.{cases_lt}
use Rattle.std.proofs.lemmas.Option.{same_Some}
use Rattle.jc_bytes.specs.Parsing.{Parsed, Good, Bad}
use Rattle.jc_bytes.proofs.OptionLaws.{none_some}
use Rattle.jc_methods.specs.ProbeMembers.{bootstraps_name, init_name, bootstrap_type}
use Rattle.jc_methods.specs.declared.probe_members.Fetch.{Fetch}
use Rattle.jc_methods.specs.declared.probe_members.Fetch.TheVariants as fetches
use Rattle.jc_pool.specs.Lookup.{Handle, handle_of}
use Rattle.jc_class.specs.declared.class_file.ClassFile.{ClassFile}
use Rattle.jc_body.specs.Attributes.{bodies_of}
use Rattle.jc_bootstraps.specs.Bootstraps.{Bootstrap, told_of}
use Rattle.jc_bootstraps.specs.BootstrapsReading.{IsLastOf, bootstraps_at}
use Rattle.jc_bootstraps.specs.declared.bootstraps.LastBootstrap.{LastBootstrap}
use Rattle.jc_bootstraps.proofs.BootstrapFormLaws.{one_list, read_text, text_read}
use Rattle.jc_bootstraps.proofs.BootstrapLaws.{ends, ends_exact, ends_not}
use Rattle.jc_instrument.proofs.DecidedLaws.{OrNot}
use Rattle.jc_instrument.proofs.RoomDecidedLaws.{both_or_not}
use Rattle.jc_instrument.specs.Needed.{bootstrap_handle}
use Rattle.jc_link_programs.specs.OwnBootstrap.{HasBootstrap, IsLastBootstrap, IsOwn}
use Rattle.jc_link_programs.specs.Statics.{single}
use Rattle.jc_link_programs.proofs.OwnBootstrapLaws.{last_number_is, none_alone, none_ended, other_last}
use Rattle.jc_link_laws.proofs.FoundPairLaws.{texts_or_not}

numbers_or_not : (m n : ℕ) → OrNot (m ≡ n)
numbers_or_not m n = by (cases_lt m n) (cases_lt n m)
  where
    by : (m < n) ⊎ (n ≤ m) → (n < m) ⊎ (m ≤ n) → OrNot (m ≡ n)
    by (inl less) more = inr (λ same. omega (arith, less, same))
    by (inr some) (inl less) = inr (λ same. omega (arith, less, same))
    by (inr some) (inr most) = inl (omega (arith, some, most))

-- ---- the handle

abbrev AreParts : Handle → List ℕ → Type 0
AreParts h class = (h.kind ≡ 6) × ((h.target.tag ≡ 10) × ((h.target.class ≡ class) × ((h.target.name ≡ init_name) × (h.target.desc ≡ bootstrap_type))))

parts_or_not : (h : Handle) (class : List ℕ) → OrNot (AreParts h class)
parts_or_not h class =
    both_or_not _ _ (numbers_or_not h.kind 6)
    (both_or_not _ _ (numbers_or_not h.target.tag 10)
    (both_or_not _ _ (texts_or_not h.target.class class)
    (both_or_not _ _ (texts_or_not h.target.name init_name) (texts_or_not h.target.desc bootstrap_type))))

handle_or_not : (o : Option Handle) (class : List ℕ) → OrNot (o ≡ Some (bootstrap_handle class))
handle_or_not None class = inr (λ e. none_some e)
handle_or_not (Some h) class = by (parts_or_not h class)
  where
    parts : Some h ≡ Some (bootstrap_handle class) → AreParts h class
    parts e =
        let same = same_Some h (bootstrap_handle class) e in (
          ap (λ (x : Handle). x.kind) same,
          (
            ap (λ (x : Handle). x.target.tag) same,
            (ap (λ (x : Handle). x.target.class) same, (ap (λ (x : Handle). x.target.name) same, ap (λ (x : Handle). x.target.desc) same)),
          ),
        )

    by : OrNot (AreParts h class) → OrNot (Some h ≡ Some (bootstrap_handle class))
    by (inl p) = inl (λ i. Some (record {
      kind = p.0 i;
      target = record { tag = p.1.0 i; class = p.1.1.0 i; name = p.1.1.1.0 i; desc = p.1.1.1.1 i };
    }))
    by (inr other) = inr (λ e. other (parts e))

-- ---- the last bootstrap method

-- there is a last one, or none is the last
last_or_not : (entries : List Bootstrap) → (last : Option LastBootstrap) × IsLastOf entries last
last_or_not [] = (None, refl)
last_or_not (b ∷ []) = (Some (told_of b), ([], b, refl, refl))
last_or_not (b ∷ d ∷ entries) = by (last_or_not (d ∷ entries))
  where
    by : (last : Option LastBootstrap) × IsLastOf (d ∷ entries) last → (last : Option LastBootstrap) × IsLastOf (b ∷ d ∷ entries) last
    by (None, none) = absurd cc
    by (Some last, is) = (Some last, (b ∷ is.0, is.1, ap (λ (l : List Bootstrap). b ∷ l) is.2, is.3))

module _ (c : ClassFile) (name : List ℕ) where
  abbrev HasNumber : Type 0
  HasNumber = (number : ℕ) × IsLastBootstrap c name number

  own_or_not : (last : LastBootstrap) → OrNot (IsOwn c.pool name last)
  own_or_not last = by (numbers_or_not last.arguments 0) (handle_or_not (handle_of c.pool last.handle) name)
    where
      by : OrNot (last.arguments ≡ 0) → OrNot (handle_of c.pool last.handle ≡ Some (bootstrap_handle name)) → OrNot (IsOwn c.pool name last)
      by (inl none) (inl handle) = inl (record { arguments = none; handle = handle })
      by (inl none) (inr other) = inr (λ own. other own.handle)
      by (inr some) handle = inr (λ own. some own.arguments)

  module _ (body : List ℕ) (there : single (bodies_of c.pool bootstraps_name c.attributes) ≡ Some body) where
    of_entries : (entries : List Bootstrap) → bootstraps_at body ≡ Good entries [] → OrNot HasNumber
    of_entries entries read = by (last_or_not entries)
      where
        of_last : (last : LastBootstrap) → IsLastOf entries (Some last) → OrNot (IsOwn c.pool name last) → OrNot HasNumber
        of_last last is (inl own) = inl (
          _,
          last_number_is c name body last (length entries) there (ends body entries (Some last) read is) own
              (λ others text. ap (λ (l : List Bootstrap). Some (length l)) (one_list body entries others (read_text body entries read) text)),
        )
        of_last last is (inr other) = inr (λ h. other_last c name body last there (ends_exact body entries (Some last) read is) other h.0 h.1)

        by : (last : Option LastBootstrap) × IsLastOf entries last → OrNot HasNumber
        by (None, is) = inr (λ h. none_ended c name body there (ends_not body entries None read is) h.0 h.1)
        by (Some last, is) = of_last last is (own_or_not last)

    unread : ((entries : List Bootstrap) → bootstraps_at body ≡ Good entries [] → ⊥) → OrNot HasNumber
    unread none = inr (λ h. none_ended c name body there (λ last end. none (end.0 ++ end.1 ∷ []) (text_read body (end.0 ++ end.1 ∷ []) end.2)) h.0 h.1)

    of_body : OrNot HasNumber
    of_body = by (bootstraps_at body) refl
      where
        good_rest : (entries others : List Bootstrap) (x : ℕ) (rest : List ℕ) → Good others (x ∷ rest) ≡ Good entries [] → ⊥
        good_rest entries others x rest e = cc

        good_bad : (entries : List Bootstrap) (left : List ℕ) → Bad left ≡ Good entries [] → ⊥
        good_bad entries left e = cc

        by : (p : Parsed (List Bootstrap)) → bootstraps_at body ≡ p → OrNot HasNumber
        by (Good entries []) read = of_entries entries read
        by (Good others (x ∷ rest)) read = unread (λ entries e. good_rest entries others x rest (sym read ∙ e))
        by (Bad left) read = unread (λ entries e. good_bad entries left (sym read ∙ e))

  number_or_not : OrNot HasNumber
  number_or_not = by (single (bodies_of c.pool bootstraps_name c.attributes)) refl
    where
      by : (o : Option (List ℕ)) → single (bodies_of c.pool bootstraps_name c.attributes) ≡ o → OrNot HasNumber
      by None none = inr (λ h. none_alone c name none h.0 h.1)
      by (Some body) there = of_body body there

  pub bootstrap_or_not : (fetch : Fetch) → OrNot ((number : Option ℕ) × HasBootstrap fetch c name number)
  bootstrap_or_not fetches.Member = inl (None, refl)
  bootstrap_or_not fetches.Constant = by number_or_not
    where
      none : (HasNumber → ⊥) → (o : Option ℕ) → HasBootstrap fetches.Constant c name o → ⊥
      none missing None h = h
      none missing (Some number) h = missing (number, h)

      by : OrNot HasNumber → OrNot ((number : Option ℕ) × HasBootstrap fetches.Constant c name number)
      by (inl h) = inl (Some h.0, h.1)
      by (inr missing) = inr (λ h. none missing h.0 h.1)
