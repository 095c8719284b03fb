mod Refused
mod Requests
