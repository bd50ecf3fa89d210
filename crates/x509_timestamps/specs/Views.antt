-- Values without where they lie in memory.
use Rattle.x509_timestamps.specs.Timestamps.{Entry}
use Rattle.x509_timestamps.specs.declared.timestamp.Timestamp.{Timestamp}

abbrev pub view : Timestamp → Entry
view t = record {
  log_id = t.log_id.now;
  time = t.time;
  extensions = t.extensions.now;
  hash = t.hash;
  signature_kind = t.signature_kind;
  signature = t.signature.now;
}
