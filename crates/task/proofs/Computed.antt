-- The plans of the task, by computing the definitions of reading, vetting and the search.
use Rattle.std.proofs.Common.{refl}
use Rattle.process.specs.Meaning.{Limits}
use Rattle.formtable.specs.Bounds.{vetted_limits}
use Rattle.rowtable.specs.Tables.{table_limits}
use Rattle.search.proofs.Holding.{plain_holds}
use Rattle.bench.specs.Permit.{bench_table}
use Rattle.reader.specs.Tokens.{next_tok}
use Rattle.task.specs.Plans.{the_permit, first_records, first_plan, second_table, second_plan, third_records, third_plan, WorkedOut}

pub permit_limits : Limits the_permit
permit_limits = table_limits bench_table.states bench_table.rows refl

pub first_limits : Limits first_plan
first_limits = vetted_limits first_records refl

pub second_limits : Limits second_plan
second_limits = table_limits second_table.states second_table.rows refl

pub worked_out : WorkedOut
unfolding next_tok
worked_out =
    record {
      first_reads = refl;
      first_passes = refl;
      first_within = refl;
      second_passes = refl;
      second_within = refl;
      third_reads = refl;
      third_passes = refl;
      third_beyond = refl;
      first_included = (plain_holds.tells first_plan the_permit first_limits permit_limits 16 8).2;
      second_included = (plain_holds.tells second_plan the_permit second_limits permit_limits 16 8).2;
      third_shortest = plain_holds.tells third_plan the_permit (vetted_limits third_records refl) permit_limits 16 8;
    }
