-- The field and the method that instrumentation adds to a class, and the method that they call, by their names and types (JVM
-- Specification 4.3, 4.5, 4.6), and how many probes there may be.
use Rattle.std.specs.Prelude.{ℕ, List, codes, nat_le, if◌then◌else◌}
use Rattle.jc_methods.specs.declared.probe_members.Fetch.{Fetch}
use Rattle.jc_methods.specs.declared.probe_members.Fetch.TheVariants as fetches

-- the field that keeps the probe array: private, static, transient and synthetic
abbrev pub data_name : List ℕ
data_name = codes "$jacocoData"

abbrev pub data_type : List ℕ
data_type = codes "[Z"

abbrev pub data_flags : ℕ
data_flags = 0x108a

-- the method that gives the probe array: private, static and synthetic
abbrev pub init_name : List ℕ
init_name = codes "$jacocoInit"

abbrev pub init_type : List ℕ
init_type = codes "()[Z"

abbrev pub init_flags : ℕ
init_flags = 0x100a

-- the method of the runtime class that makes a probe array, or gives the one that it made for the class before
abbrev pub runtime_class : List ℕ
runtime_class = codes "org/jacoco/agent/rt/internal/Offline"

abbrev pub fetch_name : List ℕ
fetch_name = codes "getProbes"

abbrev pub fetch_type : List ℕ
fetch_type = codes "(JLjava/lang/String;I)[Z"

-- ---- the array by a constant

-- The constant has the name of the field that keeps the array in other classes, and any object for its type. The method that gives
-- it its value has the name of the other method too (JVM Specification 4.4.10, 5.4.3.6).
abbrev pub constant_type : List ℕ
constant_type = codes "Ljava/lang/Object;"

abbrev pub bootstrap_type : List ℕ
bootstrap_type = codes "(Ljava/lang/invoke/MethodHandles$Lookup;Ljava/lang/String;Ljava/lang/Class;)[Z"

abbrev pub bootstraps_name : List ℕ
bootstraps_name = codes "BootstrapMethods"

-- How the methods of a class of this major version get its array: from 55 on, Java 11, a constant may be dynamic. No proof but that of the
-- code looks at the number.
unfoldable pub fetch_of : (version : ℕ) → Fetch
fetch_of version = if nat_le 55 version then fetches.Constant else fetches.Member

-- ---- how many

-- the most probes of an instrumented class
abbrev pub most_probes : ℕ
most_probes = 65535

-- the most that sipush pushes (JVM Specification 6.5)
abbrev pub most_short : ℕ
most_short = 32767
