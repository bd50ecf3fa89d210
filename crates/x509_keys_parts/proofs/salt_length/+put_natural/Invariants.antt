use Rattle.x509_keys_parts.proofs.salt_length.+put_natural.Given as goal

abbrev pub decreases-put_natural : goal.decreases-put_natural
decreases-put_natural g l = l.number
