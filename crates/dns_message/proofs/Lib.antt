pub mod CallerLemmas
pub use Rattle.dns_name.proofs as DnsName
pub use Rattle.dns_name.proofs.PlainValues as PlainValues
