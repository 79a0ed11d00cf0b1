-- Why octets are no message, or a message could not be read or written.
pub use Rattle.dns_message.specs.declared.names.fault.Fault.{Fault}
pub use Rattle.dns_message.specs.declared.names.fault.Fault.TheVariants
