-- The names and the probes of linked classes fit the format of execution data.
use Rattle.std.proofs.Common.{◌≡◌, ℕ, ◌≤◌, List, [], ◌∷◌, Option, None, Some, sym, ◌∙◌, subst, arith}
use Rattle.std.specs.List.{AllByRecursion}
use Rattle.std.proofs.lemmas.List.Elements.{All-from_recursion}
use Rattle.std.proofs.lemmas.Option.{same_Some}
use Rattle.jc_bytes.specs.ByteLists.{AreBytes}
use Rattle.jc_bytes.specs.Modified.{IsModified}
use Rattle.jc_class.specs.declared.class_file.ClassFile.{ClassFile}
use Rattle.jc_class.proofs.WritableLaws.{class_holds}
use Rattle.jc_instrument.proofs.PoolTextLaws.{class_pool, class_short}
use Rattle.jc_link_programs.specs.Linking.{IsLinkedClass, AreLinkedClasses, IsProgramOf}
use Rattle.jc_link_programs.specs.ProbeInits.{AreProbes}
use Rattle.jc_methods.specs.VerificationTypes.{Names}
use Rattle.jc_methods.specs.declared.body.Body.{Body}
use Rattle.jc_programs.specs.declared.program.Program.{Program}
use Rattle.jc_programs.specs.declared.program.Linked.{Linked}
use Rattle.jc_programs.specs.declared.program.ProbeInit.{ProbeInit}
use Rattle.jc_command_run.specs.HitStore.{count_of, FitsRecord, FitRecords}

few_probes : (c : ClassFile) (name : List ℕ) (bodies : List Body) (o : Option ProbeInit) → AreProbes c name bodies o → count_of o ≤ 65535
few_probes c name bodies None are = omega arith
few_probes c name bodies (Some init) are = omega (arith, are.asks.code.count_fits)

fits_record : (names : Names) (bytes : List ℕ) (c : Linked) → AreBytes bytes → IsLinkedClass names bytes c → FitsRecord c
fits_record names bytes c are linked =
    let file = linked.file in
    let this = (class_holds bytes file are linked.text).this_class in
    let named : this.0 ≡ c.name = same_Some this.0 c.name (sym this.1 ∙ linked.is.name) in
    let short = class_short file.pool (class_pool bytes file are linked.text).small file.this_class c.name linked.is.name in
    record {
      short = omega (arith, short);
      text = subst IsModified named this.2;
      count = few_probes file c.name c.bodies c.probes linked.is.probes;
    }

each_fits : (names : Names) (files : List (List ℕ)) (classes : List Linked) → AllByRecursion AreBytes files → AreLinkedClasses names files classes → AllByRecursion FitsRecord classes
each_fits names [] [] bytes are = tt
each_fits names [] (c ∷ classes) bytes are = absurd are
each_fits names (t ∷ files) [] bytes are = absurd are
each_fits names (t ∷ files) (c ∷ classes) bytes are = (fits_record names t c bytes.0 are.0, each_fits names files classes bytes.1 are.1)

-- the classes of a program of files fit
pub fit_records : (files : List (List ℕ)) (p : Program) → AllByRecursion AreBytes files → IsProgramOf files p → FitRecords p
fit_records files p bytes is = record { each = All-from_recursion FitsRecord p.classes (each_fits p.names files p.classes bytes is.classes); ids = is.ids }
