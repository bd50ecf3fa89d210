use Rattle.x509_der.specs.reads.Standing.{refused_otherwise}
use Rattle.x509_keys_parts.specs.RsassaPss.{rsassa_pss}
use Rattle.x509_keys_parts.proofs.pss_form.read_pss.Goals as goal

pub returns-in-Err : goal.returns-in-Err
returns-in-Err g c = refused_otherwise rsassa_pss c.args.reader.now c.read.new.reader c.named.new.reader _ c.in-Err.error _ c.named.ensures.memory.0 c.named.ensures.memory.1 c.spot-start.ensures c.named.ensures.back c.in-Err.ensures
