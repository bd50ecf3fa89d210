-- What is looked for in a certificate: a DNS name, or an address (RFC 9525, 6.1); and which general names are for it (6.3 and 6.4).
use Rattle.std.specs.Prelude.{◌≡◌, ℕ, ◌-◌, ◌==◌, ◌&&◌, if◌then◌else◌, nat_lt, List, length, slice_index, slice_range, take, Option, Some, None}
use Rattle.std.specs.Net.Addr.{ipv4_octets, ipv6_octets}
use Rattle.std.specs.Net.Grammar.{IsIpv4Text, IsIpv6Text}
use Rattle.std.specs.declared.net.ipv4_addr.Ipv4Addr.{Ipv4Addr}
use Rattle.std.specs.declared.net.ipv6_addr.Ipv6Addr.{Ipv6Addr}
use Rattle.x509_hosts.specs.Names.{IsHostName, IsPresentedFor}
use Rattle.x509_hosts.specs.declared.host.Host.{Host}
use Rattle.x509_hosts.specs.declared.host.Host.TheVariants.{Name, V4, V6}

-- what stands in brackets, as URIs have addresses of version 6 (RFC 3986, 3.2.2)
abbrev pub unbracketed : List ℕ → List ℕ
unbracketed text =
    if nat_lt 1 (length text) && (slice_index text 0 == 91) && (slice_index text (length text - 1) == 93) then slice_range text 1 (length text - 1) else text

-- a name behind which no dot stands
abbrev pub undotted : List ℕ → List ℕ
undotted text = if nat_lt 0 (length text) && (slice_index text (length text - 1) == 46) then take (length text - 1) text else text

abbrev pub IsNoV4 : List ℕ → Type 0
IsNoV4 text = (a : Ipv4Addr) → IsIpv4Text text a → ⊥

abbrev pub IsNoV6 : List ℕ → Type 0
IsNoV6 text = (a : Ipv6Addr) → IsIpv6Text (unbracketed text) a → ⊥

-- an address, else a name, or neither
abbrev pub HostTold : List ℕ → Option Host → Type 0
HostTold text (Some (V4 octets)) = (a : Ipv4Addr) × IsIpv4Text text a × (octets ≡ ipv4_octets a)
HostTold text (Some (V6 octets)) = IsNoV4 text × ((a : Ipv6Addr) × IsIpv6Text (unbracketed text) a × (octets ≡ ipv6_octets a))
HostTold text (Some (Name name)) = IsNoV4 text × IsNoV6 text × IsHostName (undotted text) × (name.now ≡ undotted text)
HostTold text None = IsNoV4 text × IsNoV6 text × (IsHostName (undotted text) → ⊥)

-- a dNSName [2] for a name, and an iPAddress [7] of the same bytes for an address (RFC 5280, 4.2.1.6)
abbrev pub IsFor : Host → ℕ → List ℕ → Type 0
IsFor (Name name) tag content = (tag ≡ 130) × IsPresentedFor content name.now
IsFor (V4 octets) tag content = (tag ≡ 135) × (content ≡ octets)
IsFor (V6 octets) tag content = (tag ≡ 135) × (content ≡ octets)
