-- What a clause sees of the options of `run --dumps`.
use Rattle.jc_command_work.specs.Seen.{words_of}
use Rattle.jc_command_dumped.specs.declared.options.DumpOptions.{DumpOptions}
use Rattle.jc_command_dumped.specs.DumpedAnswers.{Dumping}

abbrev pub dumping_seen : DumpOptions → Dumping
dumping_seen o = record { plan = o.plan.now; exec = o.destfile.now; dumps = words_of o.dumps.now; every = o.every; workers = o.workers }
