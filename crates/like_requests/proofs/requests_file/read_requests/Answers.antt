use Rattle.like_records.specs.Reading.{ReadFailed}
use Rattle.like_requests.proofs.RequestsRead.{requests-only-failed, requests-read}
use Rattle.like_requests.proofs.requests_file.read_requests.Goals as goal

pub returns : goal.returns
returns g c = record {
  file = λ rows known. requests-read c.args.pages.now rows c.read_file.result (c.read_file.ensures.file rows known);
  read = requests-only-failed (ReadFailed c.args.reader) c.read_file.result c.read_file.ensures.ends;
}
