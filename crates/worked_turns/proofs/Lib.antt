mod Neighbours
mod Turns
mod Services
mod Commands
