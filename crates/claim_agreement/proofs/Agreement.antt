-- After any list of calls, over any number of connections, what the session carries is its file's.
use Prim.Native.Nat.{ℕ}
use mathlib.Core.Path.{◌≡◌, refl, ap, ◌∙◌}
use lib.ListN.{take}
use Rattle.wire_message.specs.Message.{Bytes}
use Rattle.file_format.specs.File.{records_of}
use Rattle.file_format.proofs.Reading.{records_of_file}
use Rattle.session_turn.specs.declared.State.{State}
use Rattle.session_turn.specs.declared.State.TheVariants.{Logging}
use Rattle.claim_agreement.specs.Calls.{Host, after_all, begin}
use Rattle.claim_agreement.specs.Agreement.{AreBytes, AreaHolds, some_bytes, Agrees, InState, Stands, WholeFile, Agreement}
use Rattle.claim_agreement.proofs.Files.{ranged}
use Rattle.claim_agreement.proofs.Steps.{area_holds, call_stands, calls_stand, files_stay}
use Rattle.claim_agreement.proofs.Adds.{adds}
use Rattle.claim_agreement.proofs.Points.{tick_point, exits}

-- where the session is in logging, its host stands over the whole file
whole_file : (h : Host) → h.session.state ≡ Logging → Agrees h → WholeFile h
whole_file h logs a = record {
  agrees = a;
  reads_as = ap records_of a.holds.used_bytes ∙ records_of_file a.holds.records (ranged a.holds.records a.holds.are_in_range);
  adds = adds h logs a;
  tick_point = tick_point h logs a;
  exits = λ s e. exits h logs a e s;
}

pub in_logging_lem : (h : Host) (st : State) → st ≡ Logging → InState AreaHolds st h → Agrees h
in_logging_lem h st e i = rw e at i

begin_stands : (area : Bytes) (used : ℕ) → AreBytes (take used area) → Stands (begin area used)
begin_stands area used bytes = record { holds = some_bytes bytes; no_point = refl }

pub agreement : Agreement
agreement = record {
  begins = begin_stands;
  keeps = call_stands;
  areas = area_holds;
  files_stay = files_stay;
  holds = λ area used bytes cs logs.
      let h : Host = after_all (begin area used) cs in
      whole_file h logs (in_logging_lem h h.session.state logs (calls_stand (begin area used) cs (begin_stands area used bytes)));
}
