-- Each method of a class whose instrumented methods are written passes the kind check.
use Rattle.std.proofs.Common.{◌⊎◌, inl, inr, ℕ, ℤ, List, subst}
use Rattle.jc_methods.specs.VerificationTypes.{Names}
use Rattle.jc_methods.specs.declared.body.Body.{Body}
use Rattle.jc_methods.specs.declared.kind.State.{State}
use Rattle.jc_class.specs.declared.class_file.ClassFile.{ClassFile}
use Rattle.jc_class.specs.declared.class_file.Member.{Member}
use Rattle.jc_body.specs.BodyOf.{IsBodyOfAnySize}
use Rattle.jc_body.specs.Coded.{HasNoCode}
use Rattle.jc_body.specs.Faults.{faults_of_any_size}
use Rattle.jc_kinds.specs.Checked.{Checked}
use Rattle.jc_methods.specs.declared.probe_members.Fetch.{Fetch}
use Rattle.jc_emit.specs.Emission.{Emitting}
use Rattle.jc_emit.proofs.InitLaws.{verified}
use Rattle.jc_instrument_code.specs.declared.code.CodePlaces.{CodePlaces}
use Rattle.jc_instrument_code.specs.declared.init.AddedPlaces.{AddedPlaces}
use Rattle.jc_instrument_reread.specs.Again.{PassesAgain, IsReadAsTwin, IsReadAsInit, IsReadBack, IsWrittenAt, IsAddedAt, AreWrittenMethods, EachPassesAgain}
use Rattle.jc_instrument_reread.specs.Written.{IsAddedMethod, IsWrittenMethod}
use Rattle.jc_instrument_reread.proofs.AddedAgainLaws.{added_read}
use Rattle.jc_instrument_reread.proofs.OneBodyLaws.{same_bodies}
use Rattle.jc_instrument_reread.proofs.ReadAgainLaws.{body_again, is_body, is_twin, is_checked}
use Rattle.jc_instrument_reread.proofs.SameBodyLaws.{same_check}

-- a body that passes the kind check passes it under each list of names
passes : (names : Names) (twin : ClassFile) (number : ℕ) (method : Member) (body : Body) → IsBodyOfAnySize names twin number method body
    → Checked names body → PassesAgain twin number method
passes names twin number method body is checked = record {
  names = names;
  body = body;
  is = is;
  checked = λ others other is_other. same_check names others body other
      (same_bodies names others twin number method (faults_of_any_size twin.major twin.pool body.owner method)
      (faults_of_any_size twin.major twin.pool other.owner method) body other is is_other) checked;
}

module _ (names : Names) (c twin : ClassFile) (bootstrap : ℕ) (places : CodePlaces) (given : Emitting) (method new : Member) (b : Body)
    (states : List State) (first : ℕ) (w : IsWrittenMethod names c twin bootstrap places given method new b states first) where
  pub read_as_twin : IsReadAsTwin names twin given.fetch bootstrap new states first b
  read_as_twin = record {
    body = body_again names c twin bootstrap places given method new b states first w;
    is = is_body names c twin bootstrap places given method new b states first w;
    twin_is = is_twin names c twin bootstrap places given method new b states first w;
  }

  pub written_passes : PassesAgain twin b.method new
  written_passes =
      passes names twin b.method new (body_again names c twin bootstrap places given method new b states first w)
      (is_body names c twin bootstrap places given method new b states first w) (is_checked names c twin bootstrap places given method new b states first w)

pub read_at_as_twin : (names : Names) (c twin : ClassFile) (bootstrap : ℕ) (places : CodePlaces) (given : Emitting) (number : ℕ) (new : Member)
    → IsReadBack names c twin bootstrap places given number new
read_at_as_twin names c twin bootstrap places given number new w =
    read_as_twin names c twin bootstrap places given w.method new w.body w.states w.first w.written

pub written_at_passes : (names : Names) (c twin : ClassFile) (bootstrap : ℕ) (places : CodePlaces) (given : Emitting) (number : ℕ) (new : Member)
    → IsWrittenAt names c twin bootstrap places given number new → PassesAgain twin number new
written_at_passes names c twin bootstrap places given number new w =
    subst (λ (n : ℕ). PassesAgain twin n new) w.number_is
    (written_passes names c twin bootstrap places given w.method new w.body w.states w.first w.written)

module _ (fetch : Fetch) (twin : ClassFile) (owner : List ℕ) (id : ℤ) (count : ℕ) (p : AddedPlaces) (method : Member)
    (w : IsAddedMethod fetch twin owner id count p method) (number : ℕ) where
  pub read_as_init : IsReadAsInit fetch twin number method owner id count
  read_as_init = added_read fetch twin owner id count p method w number

  pub added_passes : PassesAgain twin number method
  added_passes =
      let read = read_as_init in
      passes read.names twin number method read.body read.is (verified fetch read.names owner id count read.body read.init_is)

pub each_passes : (names : Names) (c twin : ClassFile) (bootstrap : ℕ) (places : CodePlaces) (given : Emitting)
    → AreWrittenMethods names c twin bootstrap places given → EachPassesAgain twin
each_passes names c twin bootstrap places given each number new at = by (each number new at)
  where
    by : HasNoCode twin.pool new ⊎ (IsWrittenAt names c twin bootstrap places given number new ⊎ IsAddedAt twin new) → HasNoCode twin.pool new ⊎ PassesAgain twin number new
    by (inl none) = inl none
    by (inr (inl w)) = inr (written_at_passes names c twin bootstrap places given number new w)
    by (inr (inr a)) = inr (added_passes a.fetch twin a.owner a.id a.count a.places new a.added number)
